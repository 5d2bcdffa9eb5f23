-- What an edit does to the star of a vertex, as a step of lists.
use Rattle.std.proofs.Common.{◌≡◌, ◌≢◌, ℕ, ◌<◌, Bool, true, false, cond, nat_eq, List, [], ◌∷◌, length, inl, inr, arith, sym, ◌∙◌, ap, subst, refl}
use Rattle.std.specs.Bool.{Decides}
use Rattle.std.proofs.lemmas.Bool.{false≢true, cond_both}
use Rattle.std.proofs.lemmas.Bool.Decides.{Decides-eqb, same_from_decides}
use Rattle.plane.specs.declared.coordinates.Point.{Point}
use Rattle.plane.specs.declared.segment.Pair.{Pair}
use Rattle.plane.specs.Accepted.{AreAccepted}
use Rattle.plane.proofs.laws.Border.{points_differ}
use Rattle.partition_defs.specs.Partition.{HasEnds, Joins}
use Rattle.partition_defs.specs.Triangulation.{IsTriangulation}
use Rattle.star.specs.Turn.{IsBeforeInTurn}
use Rattle.partition_defs.proofs.laws.Has.{contains_of}
use Rattle.partition_defs.proofs.laws.Joined.{joined, joins_of, one_other, joins_contains}
use Rattle.journal_defs.specs.declared.edit.Edit.{Edit}
use Rattle.journal_defs.specs.declared.edit.Edit.TheVariants.{Drop, Keep, Flip}
use Rattle.partition_defs.specs.Sets.{without, with_one}
use Rattle.journal_defs.specs.Edits.{State, after, IsLegal, IsSound}
use Rattle.journal_defs.specs.Neighbours.{are_joined, put_in_turn, star_list, mark_as, leave_out, at_end, list_after}
use Rattle.partition_defs.proofs.laws.Sets.{joins_without, without_joins, joins_with, with_joins, with_joins_own}
use Rattle.journal_defs.proofs.laws.Edits.{sound_after}
use Rattle.partition_defs.proofs.laws.Needs.{clear_joined}
use Rattle.journal_defs.proofs.laws.Turned.{Decides-joined, In, Turns, one_turn, in_put, put_in, turns_put, in_below, below_in, turns_below, joined_apart}
use Rattle.star.proofs.laws.Directions.{directions_differ}

-- the list of v in (T, K)
pub record IsListOf (S : List Point) (T K : List Pair) (v : ℕ) (l : List (ℕ × Bool)) : Type 0 where
  pub turns : Turns S v l
  pub gives : (z : ℕ × Bool) → In z l → Joins T v z.0 × (z.1 ≡ are_joined K v z.0)
  pub given : (w : ℕ) → Joins T v w → In (w, are_joined K v w) l

end_below : (S : List Point) (T : List Pair) (v w : ℕ) → IsTriangulation S T → Joins T v w → w < length S
end_below S T v w tri j = let (e, m, ends) = joined T v w j in
    let high = tri.within e (contains_of T e m) in let o = e.ordered in
    elim ends [ inl a ↦ omega (arith, a.1) | inr a ↦ omega (arith, a.0) ]

pub value_list : (S : List Point) (s : State) (v : ℕ) → AreAccepted S → IsTriangulation S s.all → v < length S → IsListOf S s.all s.kept v (star_list S s v)
value_list S s v accepted tri hv = record {
  turns = turns_below S s v (length S) accepted tri hv (omega arith);
  gives = λ z h. (let r = in_below S s v (length S) z h in (r.1, r.2));
  given = λ w j. below_in S s v (length S) w (end_below S s.all v w tri j) j;
}

pub one_list_of : (S : List Point) (T K : List Pair) (v : ℕ) (l m : List (ℕ × Bool)) → IsListOf S T K v l → IsListOf S T K v m → l ≡ m
one_list_of S T K v l m a b = one_turn S v l m a.turns b.turns (λ z h. over l m a b z h) (λ z h. over m l b a z h)
  where
    over : (l m : List (ℕ × Bool)) → IsListOf S T K v l → IsListOf S T K v m → (z : ℕ × Bool) → In z l → In z m
    over l m a b z h =
        let r = a.gives z h in
        subst (λ (x : ℕ × Bool). In x m) (ap (λ (c : Bool). (let p : ℕ × Bool = (z.0, c) in p)) (sym r.1)) (b.given z.0 r.0)

-- at an end of e by the other end, elsewhere not
pub at_end_cases : (e : Pair) (v : ℕ) (change : ℕ → List (ℕ × Bool)) (list : List (ℕ × Bool)) (P : List (ℕ × Bool) → Type 0) → ((w : ℕ) → HasEnds e v w → P (change w)) → (((w : ℕ) → ¬ HasEnds e v w) → P list) → P (at_end e v change list)
unfolding at_end
at_end_cases e v change list P at off =
    cond_both (nat_eq e.lo v) (change e.hi) (cond (nat_eq e.hi v) (change e.lo) list) P
    (λ t. at e.hi (inl ((Decides-eqb e.lo v).0 t, refl)))
    (λ f. cond_both (nat_eq e.hi v) (change e.lo) list P
    (λ t. at e.lo (inr (refl, (Decides-eqb e.hi v).0 t)))
    (λ g. off (λ w h. elim h [
      | inl a ↦ false≢true (sym f ∙ (Decides-eqb e.lo v).1 a.0)
      | inr a ↦ false≢true (sym g ∙ (Decides-eqb e.hi v).1 a.1)
    ])))

-- marks
pub in_mark : (w : ℕ) (b : Bool) (l : List (ℕ × Bool)) (z : ℕ × Bool) → In z (mark_as w b l) → (x : ℕ × Bool) × In x l × ((x.0, cond (nat_eq x.0 w) b x.1) ≡ z)
unfolding mark_as
in_mark w b [] z h = absurd h
in_mark w b (x ∷ xs) z (inl h) = (x, inl refl, h)
in_mark w b (x ∷ xs) z (inr h) = let (y, there, is) = in_mark w b xs z h in (y, inr there, is)

pub mark_in : (w : ℕ) (b : Bool) (l : List (ℕ × Bool)) (x : ℕ × Bool) → In x l → In (x.0, cond (nat_eq x.0 w) b x.1) (mark_as w b l)
unfolding mark_as
mark_in w b [] x h = absurd h
mark_in w b (y ∷ ys) x (inl h) = inl (ap (λ (p : ℕ × Bool). (let q : ℕ × Bool = (p.0, cond (nat_eq p.0 w) b p.1) in q)) h)
mark_in w b (y ∷ ys) x (inr h) = inr (mark_in w b ys x h)

turns_mark : (S : List Point) (v w : ℕ) (b : Bool) (l : List (ℕ × Bool)) → Turns S v l → Turns S v (mark_as w b l)
unfolding mark_as
turns_mark S v w b [] t = tt
turns_mark S v w b (x ∷ xs) t = (
  λ y h. (let (z, there, is) = in_mark w b xs y h in subst (λ (n : ℕ). IsBeforeInTurn S v x.0 n) (ap (λ (p : ℕ × Bool). p.0) is) (t.0 z there)),
  turns_mark S v w b xs t.1,
)

marked_list : (S : List Point) (T K L : List Pair) (v w : ℕ) (b : Bool) (l : List (ℕ × Bool)) → ((u : ℕ) → are_joined L v u ≡ cond (nat_eq u w) b (are_joined K v u)) → IsListOf S T K v l → IsListOf S T L v (mark_as w b l)
marked_list S T K L v w b l same so = record {
  turns = turns_mark S v w b l so.turns;
  gives = λ z h. (let (x, there, is) = in_mark w b l z h in
      let r = so.gives x there in
      let name : x.0 ≡ z.0 = ap (λ (p : ℕ × Bool). p.0) is in
      let mark : cond (nat_eq x.0 w) b x.1 ≡ z.1 = ap (λ (p : ℕ × Bool). p.1) is in (
        subst (λ (n : ℕ). Joins T v n) name r.0,
        sym mark ∙ ap (λ (c : Bool). cond (nat_eq x.0 w) b c) r.1 ∙ sym (same x.0) ∙ ap (λ (n : ℕ). are_joined L v n) name,
      ));
  given = λ u j. subst (λ (c : Bool). In (u, c) (mark_as w b l)) (sym (same u)) (mark_in w b l (u, are_joined K v u) (so.given u j));
}

-- what is joined to v by a set without e, and by one with e
joined_out : (e : Pair) (K : List Pair) (v w u : ℕ) → HasEnds e v w → are_joined (without e K) v u ≡ cond (nat_eq u w) false (are_joined K v u)
joined_out e K v w u ends = same_from_decides (are_joined (without e K) v u) (cond (nat_eq u w) false (are_joined K v u)) (Decides-joined (without e K) v u) (tell (nat_eq u w) (Decides-eqb u w))
  where
    tell : (c : Bool) → Decides c (u ≡ w) → Decides (cond c false (are_joined K v u)) (Joins (without e K) v u)
    tell true d = (λ t. absurd (false≢true t), λ h. absurd ((joins_without e K v u h).1 (subst (λ (n : ℕ). HasEnds e v n) (sym (d.0 refl)) ends)))
    tell false d = (
      λ t. without_joins e K v u ((Decides-joined K v u).0 t) (λ own. false≢true (d.1 (one_other e v u w own ends))),
      λ h. (Decides-joined K v u).1 (joins_without e K v u h).0,
    )

joined_in : (e : Pair) (K : List Pair) (v w u : ℕ) → HasEnds e v w → are_joined (with_one e K) v u ≡ cond (nat_eq u w) true (are_joined K v u)
joined_in e K v w u ends = same_from_decides (are_joined (with_one e K) v u) (cond (nat_eq u w) true (are_joined K v u)) (Decides-joined (with_one e K) v u) (tell (nat_eq u w) (Decides-eqb u w))
  where
    tell : (c : Bool) → Decides c (u ≡ w) → Decides (cond c true (are_joined K v u)) (Joins (with_one e K) v u)
    tell true d = (λ t. with_joins_own e K v u (subst (λ (n : ℕ). HasEnds e v n) (sym (d.0 refl)) ends), λ h. refl)
    tell false d = (
      λ t. with_joins e K v u ((Decides-joined K v u).0 t),
      λ h. elim (joins_with e K v u h) [ inl k ↦ (Decides-joined K v u).1 k | inr own ↦ absurd (false≢true (d.1 (one_other e v u w own ends))) ],
    )

-- a list says the same of two states that are alike at v
same_list : (S : List Point) (T K U L : List Pair) (v : ℕ) (l : List (ℕ × Bool)) → ((w : ℕ) → (Joins T v w → Joins U v w) × (Joins U v w → Joins T v w)) → ((w : ℕ) → (Joins K v w → Joins L v w) × (Joins L v w → Joins K v w)) → IsListOf S T K v l → IsListOf S U L v l
same_list S T K U L v l all kept so =
    let marks : (w : ℕ) → are_joined K v w ≡ are_joined L v w =
    λ w. same_from_decides (are_joined K v w) (are_joined L v w) (let d = Decides-joined K v w in (λ t. (kept w).0 (d.0 t), λ h. d.1 ((kept w).1 h))) (Decides-joined L v w) in
    record {
      turns = so.turns;
      gives = λ z h. (let r = so.gives z h in ((all z.0).0 r.0, r.1 ∙ marks z.0));
      given = λ w j. subst (λ (c : Bool). In (w, c) l) (marks w) (so.given w ((all w).1 j));
    }

-- leaving out
pub in_out : (w : ℕ) (l : List (ℕ × Bool)) (z : ℕ × Bool) → In z (leave_out w l) → In z l × (z.0 ≢ w)
unfolding leave_out
in_out w [] z h = absurd h
in_out w (x ∷ xs) z h =
    cond_both (nat_eq x.0 w) (leave_out w xs) (x ∷ leave_out w xs) (λ m. In z m → In z (x ∷ xs) × (z.0 ≢ w))
    (λ t h. (let r = in_out w xs z h in (inr r.0, r.1)))
    (λ f h. elim h [
      | inl same ↦ (inl same, λ e. false≢true (sym f ∙ (Decides-eqb x.0 w).1 (ap (λ (p : ℕ × Bool). p.0) same ∙ e)))
      | inr k ↦ (let r = in_out w xs z k in (inr r.0, r.1))
    ])
    h

pub out_in : (w : ℕ) (l : List (ℕ × Bool)) (z : ℕ × Bool) → In z l → z.0 ≢ w → In z (leave_out w l)
unfolding leave_out
out_in w [] z h ne = h
out_in w (x ∷ xs) z h ne =
    cond_both (nat_eq x.0 w) (leave_out w xs) (x ∷ leave_out w xs) (λ m. In z m)
    (λ t. elim h [ inl same ↦ absurd (ne (ap (λ (p : ℕ × Bool). p.0) (sym same) ∙ (Decides-eqb x.0 w).0 t)) | inr k ↦ out_in w xs z k ne ])
    (λ f. elim h [ inl same ↦ inl same | inr k ↦ inr (out_in w xs z k ne) ])

turns_out : (S : List Point) (v w : ℕ) (l : List (ℕ × Bool)) → Turns S v l → Turns S v (leave_out w l)
unfolding leave_out
turns_out S v w [] t = tt
turns_out S v w (x ∷ xs) t =
    cond_both (nat_eq x.0 w) (leave_out w xs) (x ∷ leave_out w xs) (λ m. Turns S v m)
    (λ b. turns_out S v w xs t.1)
    (λ b. (λ y h. t.0 y (in_out w xs y h).0, turns_out S v w xs t.1))

left_list : (S : List Point) (T K : List Pair) (e : Pair) (v w : ℕ) (l : List (ℕ × Bool)) → HasEnds e v w → IsListOf S T K v l → IsListOf S (without e T) K v (leave_out w l)
left_list S T K e v w l ends so = record {
  turns = turns_out S v w l so.turns;
  gives = λ z h. (let there = in_out w l z h in let r = so.gives z there.0 in (without_joins e T v z.0 r.0 (λ own. there.1 (one_other e v z.0 w own ends)), r.1));
  given = λ u j. (let r = joins_without e T v u j in out_in w l (u, are_joined K v u) (so.given u r.0) (λ same. r.1 (subst (λ (n : ℕ). HasEnds e v n) (sym same) ends)));
}

-- putting in
put_list : (S : List Point) (T K : List Pair) (f : Pair) (v w : ℕ) (l : List (ℕ × Bool)) → AreAccepted S → IsTriangulation S (with_one f T) → v < length S → HasEnds f v w → ¬ Joins T v w → ¬ Joins K v w → IsListOf S T K v l → IsListOf S (with_one f T) K v (put_in_turn S v (w, false) l)
put_list S T K f v w l accepted tri hv ends new spare so =
    let own = with_joins_own f T v w ends in
    let hw = end_below S (with_one f T) v w tri own in
    let apart = joined_apart (with_one f T) v w own in
    record {
      turns = turns_put S v (w, false) l (points_differ S w v accepted.apart hw hv apart)
          (λ y h. (let j = with_joins f T v y.0 (so.gives y h).0 in
          let hy = end_below S (with_one f T) v y.0 tri j in
          let near = joined_apart (with_one f T) v y.0 j in (
            points_differ S y.0 v accepted.apart hy hv near,
            directions_differ S v w y.0 accepted hv hw hy apart near (λ same. new (subst (λ (n : ℕ). Joins T v n) (sym same) (so.gives y h).0)) (clear_joined S (with_one f T) v w tri own) (clear_joined S (with_one f T) v y.0 tri j),
          )))
          so.turns;
      gives = λ z h. elim (in_put S v (w, false) z l h) [
        | inl same ↦ (subst (λ (n : ℕ). Joins (with_one f T) v n) (ap (λ (p : ℕ × Bool). p.0) same) own, sym (ap (λ (p : ℕ × Bool). p.1) same) ∙ sym unkept ∙ ap (λ (n : ℕ). are_joined K v n) (ap (λ (p : ℕ × Bool). p.0) same))
        | inr k ↦ (let r = so.gives z k in (with_joins f T v z.0 r.0, r.1))
      ];
      given = λ u j. put_in S v (w, false) (u, are_joined K v u) l (elim (joins_with f T v u j) [
        | inl k ↦ inr (so.given u k)
        | inr mine ↦ inl (let same : w ≡ u = one_other f v w u ends mine in ap (λ (c : Bool). (let p : ℕ × Bool = (w, c) in p)) (sym unkept) ∙ ap (λ (n : ℕ). (let p : ℕ × Bool = (n, are_joined K v n) in p)) same)
      ]);
    }
  where
    unkept : are_joined K v w ≡ false
    unkept = same_from_decides (are_joined K v w) false (Decides-joined K v w) (λ t. absurd (false≢true t), λ h. absurd (spare h))

own_joins : (T : List Pair) (f : Pair) (v w : ℕ) → HasEnds f v w → Joins T v w → Joins T f.lo f.hi
own_joins T f v w (inl (a, b)) h = let P : ℕ → Type 0 = λ i. Joins T i f.hi in let Q : ℕ → Type 0 = λ j. Joins T v j in subst P (sym a) (subst Q (sym b) h)
own_joins T f v w (inr (a, b)) h = joined_back (let P : ℕ → Type 0 = λ i. Joins T i f.lo in let Q : ℕ → Type 0 = λ j. Joins T v j in subst P (sym b) (subst Q (sym a) h))
  where
    joined_back : Joins T f.hi f.lo → Joins T f.lo f.hi
    joined_back k = let (e, m, ends) = joined T f.hi f.lo k in joins_of T e f.lo f.hi m (elim ends [ inl x ↦ inr x | inr x ↦ inl x ])

-- the step of the list is right for every edit after which the state is sound
pub list_follows : (S : List Point) (s : State) (e : Edit) (v : ℕ) (l : List (ℕ × Bool)) → AreAccepted S → IsSound S s → IsSound S (after e s) → IsLegal S s e → v < length S → IsListOf S s.all s.kept v l → IsListOf S (after e s).all (after e s).kept v (list_after S v e l)
list_follows S s (Drop e) v l accepted so to legal hv here =
    at_end_cases e v (λ w. mark_as w false l) l (λ m. IsListOf S s.all (without e s.kept) v m)
    (λ w ends. marked_list S s.all s.kept (without e s.kept) v w false l (λ u. joined_out e s.kept v w u ends) here)
    (λ off. same_list S s.all s.kept s.all (without e s.kept) v l (λ w. (λ h. h, λ h. h)) (λ w. (λ h. without_joins e s.kept v w h (off w), λ h. (joins_without e s.kept v w h).0)) here)
list_follows S s (Keep e) v l accepted so to legal hv here =
    at_end_cases e v (λ w. mark_as w true l) l (λ m. IsListOf S s.all (with_one e s.kept) v m)
    (λ w ends. marked_list S s.all s.kept (with_one e s.kept) v w true l (λ u. joined_in e s.kept v w u ends) here)
    (λ off. same_list S s.all s.kept s.all (with_one e s.kept) v l (λ w. (λ h. h, λ h. h)) (λ w. (λ h. with_joins e s.kept v w h, λ h. elim (joins_with e s.kept v w h) [ inl k ↦ k | inr own ↦ absurd (off w own) ])) here)
list_follows S s (Flip e f) v l accepted so to legal hv here =
    let rest = at_end e v (λ w. leave_out w l) l in
    let T = without e s.all in
    let first : IsListOf S T s.kept v rest =
    at_end_cases e v (λ w. leave_out w l) l (λ m. IsListOf S T s.kept v m)
    (λ w ends. left_list S s.all s.kept e v w l ends here)
    (λ off. same_list S s.all s.kept T s.kept v l (λ w. (λ h. without_joins e s.all v w h (off w), λ h. (joins_without e s.all v w h).0)) (λ w. (λ h. h, λ h. h)) here) in
    at_end_cases f v (λ w. put_in_turn S v (w, false) rest) rest (λ m. IsListOf S (with_one f T) s.kept v m)
    (λ w ends. put_list S T s.kept f v w rest accepted to.triangulation hv ends
    (λ j. legal.fresh (joins_contains s.all f (own_joins s.all f v w ends (joins_without e s.all v w j).0)))
    (λ j. legal.fresh (so.among f (joins_contains s.kept f (own_joins s.kept f v w ends j))))
    first)
    (λ off. same_list S T s.kept (with_one f T) s.kept v rest (λ w. (λ h. with_joins f T v w h, λ h. elim (joins_with f T v w h) [ inl k ↦ k | inr own ↦ absurd (off w own) ])) (λ w. (λ h. h, λ h. h)) first)

-- so the star's list after a legal edit is the step of the list before it
pub star_follows : (S : List Point) (s : State) (e : Edit) (v : ℕ) → AreAccepted S → IsSound S s → IsLegal S s e → v < length S → list_after S v e (star_list S s v) ≡ star_list S (after e s) v
star_follows S s e v accepted so legal hv =
    let to = sound_after S s e so legal in
    one_list_of S (after e s).all (after e s).kept v (list_after S v e (star_list S s v)) (star_list S (after e s) v)
    (list_follows S s e v (star_list S s v) accepted so to legal hv (value_list S s v accepted so.triangulation hv))
    (value_list S (after e s) v accepted to.triangulation hv)
