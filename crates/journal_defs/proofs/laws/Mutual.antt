-- Stars that have each other, with the same marks, stay so under every edit, whether it fits or not.
use Rattle.std.proofs.Common.{◌≡◌, ℕ, Bool, true, false, cond, nat_eq, List, inl, inr, ◌⊎◌, sym, ◌∙◌, ap, subst}
use Rattle.std.proofs.lemmas.Bool.{false≢true, cases_Bool}
use Rattle.std.proofs.lemmas.Bool.Decides.{Decides-eqb}
use Rattle.plane.specs.declared.coordinates.Point.{Point}
use Rattle.plane.specs.declared.segment.Pair.{Pair}
use Rattle.partition_defs.specs.Partition.{HasEnds}
use Rattle.star.specs.Stars.{Seen, HasMark}
use Rattle.journal_defs.specs.declared.edit.Edit.{Edit}
use Rattle.journal_defs.specs.declared.edit.Edit.TheVariants.{Drop, Keep, Flip}
use Rattle.journal_defs.specs.Neighbours.{mark_as, leave_out, put_in_turn, at_end, list_after}
use Rattle.partition_defs.proofs.laws.Joined.{one_other, ends_back}
use Rattle.journal_defs.proofs.laws.Turned.{In, in_at, at_in, in_put, put_in}
use Rattle.journal_defs.proofs.laws.Follow.{at_end_cases, in_mark, mark_in, in_out, out_in}
use Rattle.journal_defs.specs.Turns.{stars_after, AreMutual}

-- of two stars of V each has the other where one has it, with the same mark
abbrev pub AreMutualLists : (ℕ → Seen) → (ℕ → Type 0) → Type 0
AreMutualLists at V = (v w : ℕ) (b : Bool) → V v → V w → In (w, b) (at v).list → In (v, b) (at w).list

-- what stands in a list after e is marked so, and what stood there stands
abbrev MarkSays : Pair → (v w : ℕ) → (b c : Bool) → List (ℕ × Bool) → Type 0
MarkSays e v w b c l = (HasEnds e v w × (c ≡ b) × ((d : Bool) × In (w, d) l)) ⊎ (¬ HasEnds e v w × In (w, c) l)

in_marked : (e : Pair) (v w : ℕ) (b c : Bool) (l : List (ℕ × Bool)) → In (w, c) (at_end e v (λ x. mark_as x b l) l) → MarkSays e v w b c l
in_marked e v w b c l =
    at_end_cases e v (λ x. mark_as x b l) l (λ m. In (w, c) m → MarkSays e v w b c l)
    (λ x ends h. (let (y, there, is) = in_mark x b l (w, c) h in
    let name : y.0 ≡ w = ap (λ (p : ℕ × Bool). p.0) is in
    let mark : cond (nat_eq y.0 x) b y.1 ≡ c = ap (λ (p : ℕ × Bool). p.1) is in
    let P : ℕ → Type 0 = λ n. In (n, y.1) l in
    let here : In (w, y.1) l = subst P name there in
    elim (cases_Bool (nat_eq y.0 x)) [
      | inl t ↦ inl (subst (λ (n : ℕ). HasEnds e v n) (sym ((Decides-eqb y.0 x).0 t) ∙ name) ends, sym mark ∙ ap (λ (z : Bool). cond z b y.1) t, (y.1, here))
      | inr f ↦ inr (λ own. false≢true (sym f ∙ (Decides-eqb y.0 x).1 (name ∙ sym (one_other e v x w ends own))), (let Q : Bool → Type 0 = λ m. In (w, m) l in subst Q (sym (ap (λ (z : Bool). cond z b y.1) f) ∙ mark) here))
    ]))
    (λ off h. inr (off w, h))

pub marked_own : (e : Pair) (v w : ℕ) (b d : Bool) (l : List (ℕ × Bool)) → HasEnds e v w → In (w, d) l → In (w, b) (at_end e v (λ x. mark_as x b l) l)
marked_own e v w b d l own h =
    at_end_cases e v (λ x. mark_as x b l) l (λ m. In (w, b) m)
    (λ x ends. (let Q : Bool → Type 0 = λ m. In (w, m) (mark_as x b l) in
    subst Q (ap (λ (z : Bool). cond z b d) ((Decides-eqb w x).1 (one_other e v w x own ends))) (mark_in x b l (w, d) h)))
    (λ off. absurd (off w own))

marked_other : (e : Pair) (v w : ℕ) (b c : Bool) (l : List (ℕ × Bool)) → ¬ HasEnds e v w → In (w, c) l → In (w, c) (at_end e v (λ x. mark_as x b l) l)
marked_other e v w b c l other h =
    at_end_cases e v (λ x. mark_as x b l) l (λ m. In (w, c) m)
    (λ x ends. elim (cases_Bool (nat_eq w x)) [
      | inl t ↦ absurd (other (subst (λ (n : ℕ). HasEnds e v n) (sym ((Decides-eqb w x).0 t)) ends))
      | inr f ↦ (let Q : Bool → Type 0 = λ m. In (w, m) (mark_as x b l) in subst Q (ap (λ (z : Bool). cond z b c) f) (mark_in x b l (w, c) h))
    ])
    (λ off. h)

mutual_marked : (e : Pair) (b : Bool) (l m : List (ℕ × Bool)) (v w : ℕ) (c : Bool) → ((d : Bool) → In (w, d) l → In (v, d) m) → In (w, c) (at_end e v (λ x. mark_as x b l) l) → In (v, c) (at_end e w (λ x. mark_as x b m) m)
mutual_marked e b l m v w c both h =
    elim (in_marked e v w b c l h) [
      | inl x ↦ (let (d, there) = x.2 in let Q : Bool → Type 0 = λ k. In (v, k) (at_end e w (λ x. mark_as x b m) m) in subst Q (sym x.1) (marked_own e w v b d m (ends_back e v w x.0) (both d there)))
      | inr x ↦ marked_other e w v b c m (λ own. x.0 (ends_back e w v own)) (both c x.1)
    ]

-- a flip
in_left : (e : Pair) (v w : ℕ) (c : Bool) (l : List (ℕ × Bool)) → In (w, c) (at_end e v (λ x. leave_out x l) l) → ¬ HasEnds e v w × In (w, c) l
in_left e v w c l =
    at_end_cases e v (λ x. leave_out x l) l (λ m. In (w, c) m → ¬ HasEnds e v w × In (w, c) l)
    (λ x ends h. (let r = in_out x l (w, c) h in (λ own. r.1 (one_other e v w x own ends), r.0)))
    (λ off h. (off w, h))

left_in : (e : Pair) (v w : ℕ) (c : Bool) (l : List (ℕ × Bool)) → ¬ HasEnds e v w → In (w, c) l → In (w, c) (at_end e v (λ x. leave_out x l) l)
left_in e v w c l other h =
    at_end_cases e v (λ x. leave_out x l) l (λ m. In (w, c) m)
    (λ x ends. out_in x l (w, c) h (λ same. other (subst (λ (n : ℕ). HasEnds e v n) (sym same) ends)))
    (λ off. h)

in_new : (S : List Point) (f : Pair) (v w : ℕ) (c : Bool) (l : List (ℕ × Bool)) → In (w, c) (at_end f v (λ x. put_in_turn S v (x, false) l) l) → (HasEnds f v w × (c ≡ false)) ⊎ In (w, c) l
in_new S f v w c l =
    at_end_cases f v (λ x. put_in_turn S v (x, false) l) l (λ m. In (w, c) m → (HasEnds f v w × (c ≡ false)) ⊎ In (w, c) l)
    (λ x ends h. elim (in_put S v (x, false) (w, c) l h) [
      | inl same ↦ inl (subst (λ (n : ℕ). HasEnds f v n) (ap (λ (p : ℕ × Bool). p.0) same) ends, sym (ap (λ (p : ℕ × Bool). p.1) same))
      | inr k ↦ inr k
    ])
    (λ off h. inr h)

pub new_own : (S : List Point) (f : Pair) (v w : ℕ) (l : List (ℕ × Bool)) → HasEnds f v w → In (w, false) (at_end f v (λ x. put_in_turn S v (x, false) l) l)
new_own S f v w l own =
    at_end_cases f v (λ x. put_in_turn S v (x, false) l) l (λ m. In (w, false) m)
    (λ x ends. put_in S v (x, false) (w, false) l (inl (ap (λ (n : ℕ). (let p : ℕ × Bool = (n, false) in p)) (one_other f v x w ends own))))
    (λ off. absurd (off w own))

new_other : (S : List Point) (f : Pair) (v w : ℕ) (c : Bool) (l : List (ℕ × Bool)) → In (w, c) l → In (w, c) (at_end f v (λ x. put_in_turn S v (x, false) l) l)
new_other S f v w c l h =
    at_end_cases f v (λ x. put_in_turn S v (x, false) l) l (λ m. In (w, c) m)
    (λ x ends. put_in S v (x, false) (w, c) l (inr h))
    (λ off. h)

mutual_list : (S : List Point) (e : Edit) (l m : List (ℕ × Bool)) (v w : ℕ) (c : Bool) → ((d : Bool) → In (w, d) l → In (v, d) m) → In (w, c) (list_after S v e l) → In (v, c) (list_after S w e m)
mutual_list S (Drop e) l m v w c both h = mutual_marked e false l m v w c both h
mutual_list S (Keep e) l m v w c both h = mutual_marked e true l m v w c both h
mutual_list S (Flip e f) l m v w c both h =
    let rest = at_end e v (λ x. leave_out x l) l in
    let other = at_end e w (λ x. leave_out x m) m in
    elim (in_new S f v w c rest h) [
      | inl own ↦ (let Q : Bool → Type 0 = λ k. In (v, k) (at_end f w (λ x. put_in_turn S w (x, false) other) other) in subst Q (sym own.1) (new_own S f w v other (ends_back f v w own.0)))
      | inr k ↦ (let r = in_left e v w c l k in new_other S f w v c other (left_in e w v c m (λ own. r.0 (ends_back e w v own)) (both c r.1)))
    ]

mutual_lists : (S : List Point) (e : Edit) (at : ℕ → Seen) (V : ℕ → Type 0) → AreMutualLists at V → AreMutualLists (stars_after S e at) V
mutual_lists S e at V both v w c hv hw h = mutual_list S e (at v).list (at w).list v w c (λ d k. both v w d hv hw k) h

pub mutual_after : (S : List Point) (e : Edit) (at : ℕ → Seen) (V : ℕ → Type 0) → AreMutual at V → AreMutual (stars_after S e at) V
mutual_after S e at V both v w c hv hw h =
    at_in (stars_after S e at w).list (v, c)
    (mutual_lists S e at V (λ v w b hv hw i. of_mark (at w) v b (both v w b hv hw (at_in (at v).list (w, b) i))) v w c hv hw (of_mark (stars_after S e at v) w c h))
  where
    of_mark : (s : Seen) (q : ℕ) (b : Bool) → HasMark s q b → In (q, b) s.list
    of_mark s q b (k, hk, is) = subst (λ (z : ℕ × Bool). In z s.list) is (in_at s.list k hk)
