-- Laws of what is in hand: through journals, through edits and back, and under claims.
use Rattle.std.proofs.Common.{◌≡◌, ℕ, zero, suc, ◌+◌, ◌<◌, ◌≤◌, Bool, true, false, cond, ◌||◌, ◌⊎◌, nat_eq, List, [], ◌∷◌, ◌++◌, map, length, get_or, take, arith, sym, ◌∙◌, ap, subst, refl, inl, inr}
use Rattle.std.specs.List.{AllByRecursion, list_any}
use Rattle.std.proofs.lemmas.List.{take_more, map_push, get_or-map}
use Rattle.std.proofs.lemmas.Bool.{false≢true, cases_Bool}
use Rattle.std.proofs.lemmas.Bool.Decides.{Decides-eqb}
use Rattle.plane.specs.declared.coordinates.Point.{Point}
use Rattle.plane.specs.declared.segment.Pair.{Pair}
use Rattle.plane.specs.Accepted.{AreAccepted}
use Rattle.star.specs.Stars.{Seen}
use Rattle.star.specs.StarOf.{IsStarOf}
use Rattle.index_sets.specs.Entries.{SparesPlace}
use Rattle.journal_defs.specs.declared.edit.Edit.{Edit}
use Rattle.journal_defs.specs.declared.edit.Claim.{Claim}
use Rattle.journal_defs.specs.declared.commit.Commit.{Commit}
use Rattle.journal_defs.specs.Edits.{State, after, inverse, IsSound, IsLegal, touches, AreAlikeAt}
use Rattle.journal_defs.specs.Journal.{after_all, AreLegal, opening, replay, last, commit_touches, Spares}
use Rattle.journal_defs.specs.Neighbours.{star_list, list_after}
use Rattle.journal_defs.proofs.laws.Journal.{replay_append, replay_spared, last_append, last_spared}
use Rattle.journal_defs.proofs.laws.Same.{list_alike}
use Rattle.journal_defs.proofs.laws.Turned.{value_is_star, star_is_value}
use Rattle.journal_defs.proofs.laws.Follow.{star_follows}
use Rattle.journal_defs.proofs.laws.Edits.{sound_after, inverse_legal, inverse_leads}
use Rattle.edit.specs.declared.look.Look.{Look}
use Rattle.edit.specs.Plans.{IsPlan, is_claimed, are_touching, RisesBelow}
use Rattle.hands.specs.Hands.{Hand, hand_of, IsRight, AreRight, IsStamped, AreStamped, IsInHand, hand_after, hands_after, hands_after_all, restamped, AreCovered, vertices}
use Rattle.hands.specs.Answers.{claimed, AreRising, IsFresh}

-- what is known of each element of a list
module _ {X : Type 0} (P : X → Type 0) where
  pub each_at : (xs : List X) (k : ℕ) (d : X) → AllByRecursion P xs → k < length xs → P (get_or xs k d)
  each_at [] k d h lt = absurd (let z : k < 0 = lt in omega (arith, z))
  each_at (x ∷ xs) zero d h lt = h.0
  each_at (x ∷ xs) (suc k) d h lt = each_at xs k d h.1 (let z : suc k < length (x ∷ xs) = lt in omega (arith, z))

  pub each_append : (xs ys : List X) → AllByRecursion P xs → AllByRecursion P ys → AllByRecursion P (xs ++ ys)
  each_append [] ys a b = b
  each_append (x ∷ xs) ys a b = (a.0, each_append xs ys a.1 b)

  pub append_each : (xs ys : List X) → AllByRecursion P (xs ++ ys) → AllByRecursion P xs × AllByRecursion P ys
  append_each [] ys h = (tt, h)
  append_each (x ∷ xs) ys h = let r = append_each xs ys h.1 in ((h.0, r.0), r.1)

  pub each_more : (xs : List X) (k : ℕ) (d : X) → k < length xs → AllByRecursion P (take k xs) → P (get_or xs k d) → AllByRecursion P (take (k + 1) xs)
  each_more xs k d lt a b = subst (AllByRecursion P) (sym (take_more xs k d lt)) (each_append (take k xs) (get_or xs k d ∷ []) a (b, tt))

-- a list that isn't empty has a last element
pub last_of : {X : Type 0} (xs : List X) → 0 < length xs → (ys : List X) × (x : X) × (xs ≡ ys ++ x ∷ [])
last_of [] lt = absurd (let z : 0 < 0 = lt in omega (arith, z))
last_of (x ∷ []) lt = ([], x, refl)
last_of (x ∷ y ∷ xs) lt = let r = last_of (y ∷ xs) (let z : 0 < length (y ∷ xs) = omega arith in z) in (x ∷ r.0, r.1, ap (λ zs. x ∷ zs) r.2)

pub own_at : {X : Type 0} (xs : List X) (k : ℕ) (d : X) → k < length xs → get_or xs k (get_or xs k d) ≡ get_or xs k d
own_at [] k d lt = absurd (let z : k < 0 = lt in omega (arith, z))
own_at (x ∷ xs) zero d lt = refl
own_at (x ∷ xs) (suc k) d lt = own_at xs k d (let z : suc k < length (x ∷ xs) = lt in omega (arith, z))

pub vertices_push : (hs : List Hand) (h : Hand) → vertices (hs ++ h ∷ []) ≡ vertices hs ++ h.vertex ∷ []
vertices_push hs h = map_push (λ (x : Hand). x.vertex) hs h

pub claimed_at : (claims : List Claim) (k : ℕ) (d : Claim) (e : ℕ) → k < length claims → get_or (claimed claims) k e ≡ (get_or claims k d).vertex
claimed_at claims k d e lt = get_or-map (λ (c : Claim). c.vertex) claims k d e lt

pub claimed_length : (claims : List Claim) → length (claimed claims) ≡ length claims
claimed_length [] = refl
claimed_length (c ∷ claims) = ap suc (claimed_length claims)

pub vertices_length : (hs : List Hand) → length (vertices hs) ≡ length hs
vertices_length [] = refl
vertices_length (h ∷ hs) = ap suc (vertices_length hs)

pub none_left : (hs : List Hand) → length hs ≡ 0 → hs ≡ []
none_left [] e = refl
none_left (h ∷ hs) e = absurd (let z : length (h ∷ hs) ≡ 0 = e in omega (arith, z))

abbrev pub no_claim : Claim
no_claim = record { vertex = 0; stamp = 0 }

-- a hand is right exactly where its star is that of its vertex
pub right_of_star : (S : List Point) (s : State) (l : Look) (v : ℕ) → AreAccepted S → IsSound S s → v < length S → IsStarOf S s.all s.kept v l.star → IsRight S s (hand_of l)
right_of_star S s l v accepted sound lt star = record {
  within = subst (λ (x : ℕ). x < length S) (sym star.centre) lt;
  points = star.points;
  list = star_is_value S s v l.star accepted sound lt star ∙ ap (λ (x : ℕ). star_list S s x) (sym star.centre);
}

-- a star with this centre, this list and these points, whatever its room
with_list : (S : List Point) (s : State) (v : ℕ) (star : Seen) → star.centre ≡ v → star.points ≡ S → star.list ≡ star_list S s v
    → IsStarOf S s.all s.kept v (record { centre = v; list = star_list S s v; spare = star.spare; points = S }) → IsStarOf S s.all s.kept v star
with_list S s v star centre points list true_star =
    let C : ℕ → Seen = λ x. record { centre = x; list = star_list S s v; spare = star.spare; points = S } in
    let L : List (ℕ × Bool) → Seen = λ x. record { centre = star.centre; list = x; spare = star.spare; points = S } in
    let P : List Point → Seen = λ x. record { centre = star.centre; list = star.list; spare = star.spare; points = x } in
    let whole : C v ≡ star = ap C (sym centre) ∙ (ap L (sym list) ∙ ap P (sym points)) in
    subst (IsStarOf S s.all s.kept v) whole true_star

with_room : (S : List Point) (s : State) (v n : ℕ) → AreAccepted S → IsSound S s → v < length S → IsStarOf S s.all s.kept v (record { centre = v; list = star_list S s v; spare = n; points = S })
with_room S s v n accepted sound lt =
    let star = value_is_star S s v accepted sound lt in
    record { star = star.star; centre = refl; points = refl; neighbours = star.neighbours; marks = star.marks }

pub star_of_right : (S : List Point) (s : State) (l : Look) → AreAccepted S → IsSound S s → IsRight S s (hand_of l) → IsStarOf S s.all s.kept l.star.centre l.star
star_of_right S s l accepted sound right =
    with_list S s l.star.centre l.star refl right.points right.list (with_room S s l.star.centre l.star.spare accepted sound right.within)

-- commits that spare a place
pub spares_as : (more : List Commit) (v : ℕ) → SparesPlace commit_touches more v → Spares more v
spares_as [] v h = tt
spares_as (c ∷ more) v h = (h.0, spares_as more v h.1)

-- a right hand is right after further commits that spare its vertex, and its stamp too
pub alike_later : (start : List Pair) (J more : List Commit) (v : ℕ) → SparesPlace commit_touches more v → AreAlikeAt (replay start J) (replay start (J ++ more)) v
alike_later start J more v h = subst (λ (t : State). AreAlikeAt (replay start J) t v) (sym (replay_append J more (opening start))) (replay_spared more (replay start J) v (spares_as more v h))

pub carry_right : (S : List Point) (start : List Pair) (J more : List Commit) (h : Hand) → SparesPlace commit_touches more h.vertex → IsRight S (replay start J) h → IsRight S (replay start (J ++ more)) h
carry_right S start J more h sp r = record {
  within = r.within;
  points = r.points;
  list = r.list ∙ list_alike S (replay start J) (replay start (J ++ more)) h.vertex (alike_later start J more h.vertex sp);
}

pub carry_stamp : (J more : List Commit) (h : Hand) → SparesPlace commit_touches more h.vertex → IsStamped J h → IsStamped (J ++ more) h
carry_stamp J more h sp e = e ∙ sym (last_spared J more h.vertex (spares_as more h.vertex sp))

pub carry : (S : List Point) (start : List Pair) (J more : List Commit) (hs : List Hand) → AllByRecursion (SparesPlace commit_touches more) (vertices hs)
    → AreRight S (replay start J) hs → AreStamped J hs → AreRight S (replay start (J ++ more)) hs × AreStamped (J ++ more) hs
carry S start J more [] sp r e = (tt, tt)
carry S start J more (h ∷ hs) sp r e =
    let rest = carry S start J more hs sp.1 r.1 e.1 in
    ((carry_right S start J more h sp.0 r.0, rest.0), (carry_stamp J more h sp.0 e.0, rest.1))

-- hands stay right through a legal edit
pub right_after_one : (S : List Point) (s : State) (e : Edit) (h : Hand) → AreAccepted S → IsSound S s → IsLegal S s e → IsRight S s h → IsRight S (after e s) (hand_after S e h)
right_after_one S s e h accepted sound legal r = record {
  within = r.within;
  points = r.points;
  list = ap (λ (l : List (ℕ × Bool)). list_after S h.vertex e l) r.list ∙ star_follows S s e h.vertex accepted sound legal r.within;
}

pub right_after : (S : List Point) (s : State) (e : Edit) (hs : List Hand) → AreAccepted S → IsSound S s → IsLegal S s e → AreRight S s hs → AreRight S (after e s) (hands_after S e hs)
right_after S s e [] accepted sound legal r = tt
right_after S s e (h ∷ hs) accepted sound legal r = (right_after_one S s e h accepted sound legal r.0, right_after S s e hs accepted sound legal r.1)

pub sound_after_all : (S : List Point) (s : State) (es : List Edit) → IsSound S s → AreLegal S s es → IsSound S (after_all es s)
sound_after_all S s [] sound l = sound
sound_after_all S s (e ∷ es) sound l = sound_after_all S (after e s) es (sound_after S s e sound l.0) l.1

pub right_after_all : (S : List Point) (s : State) (es : List Edit) (hs : List Hand) → AreAccepted S → IsSound S s → AreLegal S s es → AreRight S s hs → AreRight S (after_all es s) (hands_after_all S es hs)
right_after_all S s [] hs accepted sound l r = r
right_after_all S s (e ∷ es) hs accepted sound l r = right_after_all S (after e s) es (hands_after S e hs) accepted (sound_after S s e sound l.0) l.1 (right_after S s e hs accepted sound l.0 r)

-- the inverse of an edit leads hands back to the very same ones
there_and_back : (S : List Point) (s : State) (e f : Edit) (hs : List Hand) → AreRight S s hs → AreRight S s (hands_after S f (hands_after S e hs)) → hands_after S f (hands_after S e hs) ≡ hs
there_and_back S s e f [] r q = refl
there_and_back S s e f (h ∷ hs) r q =
    let H : List (ℕ × Bool) → Hand = λ l. record { vertex = h.vertex; list = l; points = h.points; stamp = h.stamp } in
    ap (λ (x : Hand). x ∷ hands_after S f (hands_after S e hs)) (ap H (q.0.list ∙ sym r.0.list))
    ∙ ap (λ (xs : List Hand). h ∷ xs) (there_and_back S s e f hs r.1 q.1)

pub hands_back : (S : List Point) (s : State) (e : Edit) (hs : List Hand) → AreAccepted S → IsSound S s → IsLegal S s e → AreRight S s hs → hands_after S (inverse e) (hands_after S e hs) ≡ hs
hands_back S s e hs accepted sound l r =
    let there = right_after S s e hs accepted sound l r in
    let back = right_after S (after e s) (inverse e) (hands_after S e hs) accepted (sound_after S s e sound l) (inverse_legal S s e sound l) there in
    there_and_back S s e (inverse e) hs r (subst (λ (t : State). AreRight S t (hands_after S (inverse e) (hands_after S e hs))) (inverse_leads S s e sound l) back)

-- what is in hand stays in hand
pub in_hand_after : (S : List Point) (e : Edit) (hs : List Hand) (v : ℕ) → IsInHand hs v → IsInHand (hands_after S e hs) v
in_hand_after S e [] v x = absurd x
in_hand_after S e (h ∷ hs) v (inl a) = inl a
in_hand_after S e (h ∷ hs) v (inr b) = inr (in_hand_after S e hs v b)

pub in_hand_after_all : (S : List Point) (es : List Edit) (hs : List Hand) (v : ℕ) → IsInHand hs v → IsInHand (hands_after_all S es hs) v
in_hand_after_all S [] hs v h = h
in_hand_after_all S (e ∷ es) hs v h = in_hand_after_all S es (hands_after S e hs) v (in_hand_after S e hs v h)

-- several edits, and fewer of them
pub hands_append : (S : List Point) (es fs : List Edit) (hs : List Hand) → hands_after_all S (es ++ fs) hs ≡ hands_after_all S fs (hands_after_all S es hs)
hands_append S [] fs hs = refl
hands_append S (e ∷ es) fs hs = hands_append S es fs (hands_after S e hs)

pub legal_less : (S : List Point) (s : State) (es : List Edit) (k n : ℕ) → k ≤ n → AreLegal S s (take n es) → AreLegal S s (take k es)
legal_less S s es zero n lt l = tt
legal_less S s [] (suc k) n lt l = tt
legal_less S s (e ∷ es) (suc k) zero lt l = absurd (let z : suc k ≤ 0 = lt in omega (arith, z))
legal_less S s (e ∷ es) (suc k) (suc n) lt l = (l.0, legal_less S (after e s) es k n (let z : suc k ≤ suc n = lt in omega (arith, z)) l.1)

-- what the edits touch is in hand
pub touched_in : (hs : List Hand) (es : List Edit) (v : ℕ) → AreCovered hs es → list_any (λ e. touches e v) es ≡ true → IsInHand hs v
touched_in hs [] v cov h = absurd (false≢true h)
touched_in hs (e ∷ es) v cov h =
    elim (cases_Bool (touches e v)) [
      | inl t ↦ cov.0 v t
      | inr f ↦ touched_in hs es v cov.1 (subst (λ (b : Bool). (b || list_any (λ e. touches e v) es) ≡ true) f h)
    ]

-- commits that spare what is in hand
pub spare_in : (more : List Commit) (hs : List Hand) (v : ℕ) → AllByRecursion (SparesPlace commit_touches more) (vertices hs) → IsInHand hs v → SparesPlace commit_touches more v
spare_in more [] v sp x = absurd x
spare_in more (h ∷ hs) v sp (inl a) = subst (SparesPlace commit_touches more) a sp.0
spare_in more (h ∷ hs) v sp (inr b) = spare_in more hs v sp.1 b

pub fresh_on : (J more : List Commit) (claims : List Claim) → AllByRecursion (SparesPlace commit_touches more) (claimed claims) → AllByRecursion (IsFresh J) claims → AllByRecursion (IsFresh (J ++ more)) claims
fresh_on J more [] sp f = tt
fresh_on J more (c ∷ claims) sp f = (f.0 ∙ sym (last_spared J more c.vertex (spares_as more c.vertex sp.0)), fresh_on J more claims sp.1 f.1)

-- hands whose edits are made, and those that a commit stamps
pub last_snoc : (J : List Commit) (c : Commit) (v : ℕ) → last (J ++ c ∷ []) v ≡ cond (commit_touches c v) (length J + 1) (last J v)
last_snoc J c v = last_append J (c ∷ []) v

pub right_restamped : (S : List Point) (s : State) (c : Commit) (n : ℕ) (hs : List Hand) → AreRight S s hs → AreRight S s (map (restamped c n) hs)
right_restamped S s c n [] r = tt
right_restamped S s c n (h ∷ hs) r = (one (commit_touches c h.vertex), right_restamped S s c n hs r.1)
  where
    one : (b : Bool) → IsRight S s (cond b (record h { stamp = n }) h)
    one true = record { within = r.0.within; points = r.0.points; list = r.0.list }
    one false = r.0

stamped_after : (S : List Point) (J : List Commit) (e : Edit) (hs : List Hand) → AreStamped J hs → AreStamped J (hands_after S e hs)
stamped_after S J e [] st = tt
stamped_after S J e (h ∷ hs) st = (st.0, stamped_after S J e hs st.1)

pub stamped_after_all : (S : List Point) (J : List Commit) (es : List Edit) (hs : List Hand) → AreStamped J hs → AreStamped J (hands_after_all S es hs)
stamped_after_all S J [] hs st = st
stamped_after_all S J (e ∷ es) hs st = stamped_after_all S J es (hands_after S e hs) (stamped_after S J e hs st)

pub stamped_restamped : (J : List Commit) (c : Commit) (n : ℕ) (hs : List Hand) → n ≡ length J + 1 → AreStamped J hs → AreStamped (J ++ c ∷ []) (map (restamped c n) hs)
stamped_restamped J c n [] is st = tt
stamped_restamped J c n (h ∷ hs) is st = (one (commit_touches c h.vertex) refl, stamped_restamped J c n hs is st.1)
  where
    one : (b : Bool) → commit_touches c h.vertex ≡ b → IsStamped (J ++ c ∷ []) (cond b (record h { stamp = n }) h)
    one true e = is ∙ sym (last_snoc J c h.vertex ∙ ap (λ (x : Bool). cond x (length J + 1) (last J h.vertex)) e)
    one false e = st.0 ∙ sym (last_snoc J c h.vertex ∙ ap (λ (x : Bool). cond x (length J + 1) (last J h.vertex)) e)

vertices_after_one : (S : List Point) (e : Edit) (hs : List Hand) → vertices (hands_after S e hs) ≡ vertices hs
vertices_after_one S e [] = refl
vertices_after_one S e (h ∷ hs) = ap (λ (l : List ℕ). h.vertex ∷ l) (vertices_after_one S e hs)

pub vertices_after : (S : List Point) (es : List Edit) (hs : List Hand) → vertices (hands_after_all S es hs) ≡ vertices hs
vertices_after S [] hs = refl
vertices_after S (e ∷ es) hs = vertices_after S es (hands_after S e hs) ∙ vertices_after_one S e hs

pub vertices_restamped : (c : Commit) (n : ℕ) (hs : List Hand) → vertices (map (restamped c n) hs) ≡ vertices hs
vertices_restamped c n [] = refl
vertices_restamped c n (h ∷ hs) = ap (λ (x : ℕ). x ∷ vertices (map (restamped c n) hs)) (one (commit_touches c h.vertex)) ∙ ap (λ (l : List ℕ). h.vertex ∷ l) (vertices_restamped c n hs)
  where
    one : (b : Bool) → (cond b (record h { stamp = n }) h).vertex ≡ h.vertex
    one true = refl
    one false = refl

-- the claims of a plan rise, and with their vertices in hand its edits are covered
claimed_in : (claims : List Claim) (hs : List Hand) (v : ℕ) → vertices hs ≡ claimed claims → is_claimed claims v ≡ true → IsInHand hs v
claimed_in claims hs v keys h = in_keys hs v (subst (λ (xs : List ℕ). Among v xs) (sym keys) (among claims h))
  where
    Among : ℕ → List ℕ → Type 0
    Among u [] = ⊥
    Among u (x ∷ xs) = (x ≡ u) ⊎ Among u xs

    among : (cs : List Claim) → is_claimed cs v ≡ true → Among v (claimed cs)
    among [] e = absurd (false≢true e)
    among (c ∷ cs) e =
        elim (cases_Bool (nat_eq c.vertex v)) [
          | inl t ↦ inl ((Decides-eqb c.vertex v).0 t)
          | inr f ↦ inr (among cs (subst (λ (b : Bool). (b || is_claimed cs v) ≡ true) f e))
        ]

    in_keys : (ks : List Hand) (u : ℕ) → Among u (vertices ks) → IsInHand ks u
    in_keys [] u x = absurd x
    in_keys (k ∷ ks) u (inl a) = inl a
    in_keys (k ∷ ks) u (inr b) = inr (in_keys ks u b)

covered_as : (hs : List Hand) (es : List Edit) → ((v : ℕ) → are_touching es v ≡ true → IsInHand hs v) → AreCovered hs es
covered_as hs [] h = tt
covered_as hs (e ∷ es) h = (
  λ v t. h v (one_touches (touches e v) (are_touching es v) t),
  covered_as hs es (λ v t. h v (rest_touches (touches e v) (are_touching es v) t)),
)
  where
    one_touches : (a b : Bool) → a ≡ true → (a || b) ≡ true
    one_touches true b t = refl
    one_touches false b t = absurd (false≢true t)

    rest_touches : (a b : Bool) → b ≡ true → (a || b) ≡ true
    rest_touches true b t = refl
    rest_touches false b t = t

pub covered_by_plan : (edits : List Edit) (claims : List Claim) (hs : List Hand) → IsPlan edits claims → vertices hs ≡ claimed claims → AreCovered hs edits
covered_by_plan edits claims hs plan keys = covered_as hs edits (λ v t. claimed_in claims hs v keys (plan.covered v t))

above_all : (x y : ℕ) (zs : List ℕ) → x < y → AllByRecursion (λ (z : ℕ). y < z) zs → AllByRecursion (λ (z : ℕ). x < z) zs
above_all x y [] lt h = tt
above_all x y (z ∷ zs) lt h = (let up = h.0 in omega (arith, lt, up), above_all x y zs lt h.1)

rising : (cs : List Claim) → RisesBelow cs (length cs) → AreRising (claimed cs)
rising [] up = tt
rising (c ∷ []) up = (tt, tt)
rising (c ∷ d ∷ cs) up =
    let rest : AreRising (claimed (d ∷ cs)) = rising (d ∷ cs) (λ k x h. (let on : suc k + 1 ≡ suc (k + 1) = omega arith in
    subst (λ (n : ℕ). (get_or (d ∷ cs) k x).vertex < (get_or (c ∷ d ∷ cs) n x).vertex) on (up (suc k) x (omega (arith, h))))) in
    let first : c.vertex < d.vertex = up 0 c (omega arith) in
    ((first, above_all c.vertex d.vertex (claimed cs) first rest.0), rest)

pub rising_plan : (edits : List Edit) (claims : List Claim) → IsPlan edits claims → AreRising (claimed claims)
rising_plan edits claims plan = rising claims plan.rising
