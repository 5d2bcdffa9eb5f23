-- The stars that looks in hand give, and their stamps.
use Rattle.std.proofs.Common.{◌≡◌, ◌≢◌, ℕ, zero, suc, ◌+◌, ◌<◌, ◌≤◌, Bool, true, cond, nat_eq, List, [], ◌∷◌, length, get_or, take, Option, Some, None, inl, inr, arith, rules, sym, ◌∙◌, ap, subst, refl}
use Rattle.std.specs.Prelude.{IsSome, unwrap_or}
use Rattle.std.specs.List.{AllByRecursion}
use Rattle.std.proofs.lemmas.List.{take_all}
use Rattle.std.proofs.lemmas.Bool.{false≢true, cases_Bool, ne_eqb}
use Rattle.std.proofs.lemmas.Bool.Decides.{Decides-eqb}
use Rattle.plane.specs.declared.coordinates.Point.{Point}
use Rattle.plane.specs.Accepted.{AreAccepted}
use Rattle.star.specs.Stars.{Seen}
use Rattle.star.specs.StarOf.{IsStarOf}
use Rattle.journal_defs.specs.declared.edit.Edit.{Edit}
use Rattle.journal_defs.specs.declared.edit.Claim.{Claim}
use Rattle.journal_defs.specs.declared.commit.Commit.{Commit}
use Rattle.journal_defs.specs.declared.edit.Why.{Why}
use Rattle.journal_defs.specs.Edits.{State, IsSound, IsLegal, touches}
use Rattle.journal_defs.specs.Journal.{last}
use Rattle.journal_defs.specs.Neighbours.{IsWhy}
use Rattle.journal_defs.specs.Table.{Fits, Refuses, seen_of, HasStarsFor}
use Rattle.journal_defs.proofs.laws.Same.{true_why}
use Rattle.journal_defs.proofs.laws.Table.{fits_legal, refused_illegal}
use Rattle.edit.specs.declared.look.Look.{Look}
use Rattle.edit.specs.TrueStars.{AreTrueStars}
use Rattle.hands.specs.Hands.{Hand, hand_of, hands_of, AreRight, AreStamped, IsInHand, vertices}
use Rattle.hands.specs.Stars.{star_of_hand}
use Rattle.hands.specs.Answers.{claimed, IsFresh, IsFirstStale}
use Rattle.hands.proofs.Laws.{star_of_right, each_more, claimed_length, vertices_length}

-- a star that is found, and that of a vertex
abbrev IsStarAt : List Point → State → ℕ → Option Seen → Type 0
IsStarAt S s v o = IsSome o × IsStarOf S s.all s.kept v (unwrap_or o (record { centre = 0; list = []; spare = 0; points = [] }))

first_star : (S : List Point) (s : State) (star : Seen) (rest : Option Seen) (v : ℕ) → IsStarOf S s.all s.kept star.centre star → ((star.centre ≢ v) → IsStarAt S s v rest) → IsStarAt S s v (cond (nat_eq star.centre v) (Some star) rest)
first_star S s star rest v here later =
    elim (cases_Bool (nat_eq star.centre v)) [
      | inl t ↦ subst (λ (b : Bool). IsStarAt S s v (cond b (Some star) rest)) (sym t)
          (search (rules), subst (λ (u : ℕ). IsStarOf S s.all s.kept u star) ((Decides-eqb star.centre v).0 t) here)
      | inr f ↦ subst (λ (b : Bool). IsStarAt S s v (cond b (Some star) rest)) (sym f)
          (later (λ e. false≢true (sym f ∙ (Decides-eqb star.centre v).1 e)))
    ]

in_rest : (h : Hand) (hs : List Hand) (v : ℕ) → IsInHand (h ∷ hs) v → h.vertex ≢ v → IsInHand hs v
in_rest h hs v (inl same) ne = absurd (ne same)
in_rest h hs v (inr later) ne = later

-- the star in hand of a vertex is that of the vertex
pub hand_star : (S : List Point) (s : State) (looks : List Look) (v : ℕ) → AreAccepted S → IsSound S s → AreRight S s (hands_of looks) → IsInHand (hands_of looks) v
    → IsSome (star_of_hand looks v) × IsStarOf S s.all s.kept v (seen_of (star_of_hand looks) v)
hand_star S s [] v accepted sound right held = absurd held
hand_star S s (l ∷ looks) v accepted sound right held =
    first_star S s l.star (star_of_hand looks v) v (star_of_right S s l accepted sound right.0)
    (λ ne. hand_star S s looks v accepted sound right.1 (in_rest (hand_of l) (hands_of looks) v held ne))

pub stars_for : (S : List Point) (s : State) (looks : List Look) (e : Edit) → AreAccepted S → IsSound S s → AreRight S s (hands_of looks) → ((v : ℕ) → touches e v ≡ true → IsInHand (hands_of looks) v) → HasStarsFor S (star_of_hand looks) e
stars_for S s looks e accepted sound right covered v t =
    let h = hand_star S s looks v accepted sound right (covered v t) in
    (h.0, (sym h.1.points, h.1.centre))

pub true_stars : (S : List Point) (s : State) (looks : List Look) (e : Edit) → AreAccepted S → IsSound S s → AreRight S s (hands_of looks) → ((v : ℕ) → touches e v ≡ true → IsInHand (hands_of looks) v) → AreTrueStars S (star_of_hand looks) e
true_stars S s looks e accepted sound right covered = (s, sound, λ v t. (hand_star S s looks v accepted sound right (covered v t)).1)

-- an edit that fits the stars in hand is legal, and a refusal is that of the state
pub legal_by : (S : List Point) (s : State) (looks : List Look) (e : Edit) → AreAccepted S → IsSound S s → AreRight S s (hands_of looks) → ((v : ℕ) → touches e v ≡ true → IsInHand (hands_of looks) v) → Fits S (seen_of (star_of_hand looks)) e → IsLegal S s e
legal_by S s looks e accepted sound right covered fit =
    fits_legal S s (seen_of (star_of_hand looks)) e sound (λ v t. (hand_star S s looks v accepted sound right (covered v t)).1) fit

inside : (S : List Point) (s : State) (hs : List Hand) (v : ℕ) → AreRight S s hs → IsInHand hs v → v < length S
inside S s [] v right held = absurd held
inside S s (h ∷ hs) v right (inl same) = subst (λ (u : ℕ). u < length S) same right.0.within
inside S s (h ∷ hs) v right (inr later) = inside S s hs v right.1 later

pub why_by : (S : List Point) (s : State) (looks : List Look) (e : Edit) (why : Why) → AreAccepted S → IsSound S s → AreRight S s (hands_of looks) → ((v : ℕ) → touches e v ≡ true → IsInHand (hands_of looks) v) → Refuses S (seen_of (star_of_hand looks)) e why → IsWhy S s e why × ¬ IsLegal S s e
why_by S s looks e why accepted sound right covered refuses = (
  true_why S s (seen_of (star_of_hand looks)) e why accepted sound (λ v t. inside S s (hands_of looks) v right (covered v t)) (λ v t. (hand_star S s looks v accepted sound right (covered v t)).1) refuses,
  refused_illegal S s (seen_of (star_of_hand looks)) e why sound (λ v t. (hand_star S s looks v accepted sound right (covered v t)).1) refuses,
)

-- the first look at v
pub found_at : (looks : List Look) (v k : ℕ) (d : Look) → k < length looks → (get_or looks k d).star.centre ≡ v → ((j : ℕ) (f : Look) → j < k → (get_or looks j f).star.centre ≢ v) → star_of_hand looks v ≡ Some (get_or looks k d).star
found_at [] v k d lt at before = absurd (omega (arith, lt))
found_at (l ∷ looks) v zero d lt at before = ap (λ (b : Bool). cond b (Some l.star) (star_of_hand looks v)) ((Decides-eqb l.star.centre v).1 at)
found_at (l ∷ looks) v (suc k) d lt at before =
    ap (λ (b : Bool). cond b (Some l.star) (star_of_hand looks v)) (ne_eqb l.star.centre v (before 0 l (omega arith)))
    ∙ found_at looks v k d (omega (arith, lt)) at (λ j f h. before (suc j) f (omega (arith, h)))

pub found_none : (looks : List Look) (v : ℕ) → ((j : ℕ) (f : Look) → j < length looks → (get_or looks j f).star.centre ≢ v) → star_of_hand looks v ≡ None
found_none [] v none = refl
found_none (l ∷ looks) v none =
    ap (λ (b : Bool). cond b (Some l.star) (star_of_hand looks v)) (ne_eqb l.star.centre v (none 0 l (omega arith)))
    ∙ found_none looks v (λ j f h. none (suc j) f (omega (arith, h)))

abbrev pub no_look : Look
no_look = record { star = record { centre = 0; list = []; spare = 0; points = [] }; stamp = 0 }

-- as many looks as claims, and their stamps by the vertices of these
pub looks_length : (looks : List Look) → length (hands_of looks) ≡ length looks
looks_length [] = refl
looks_length (l ∷ looks) = ap suc (looks_length looks)

pub as_many : (claims : List Claim) (looks : List Look) → vertices (hands_of looks) ≡ claimed claims → length looks ≡ length claims
as_many claims looks keys = sym (looks_length looks) ∙ (sym (vertices_length (hands_of looks)) ∙ (ap (λ (l : List ℕ). length l) keys ∙ claimed_length claims))

pub stamp_read : (J : List Commit) (claims : List Claim) (looks : List Look) (k : ℕ) (d : Claim) (e : Look) → vertices (hands_of looks) ≡ claimed claims → AreStamped J (hands_of looks) → k < length claims → (get_or looks k e).stamp ≡ last J (get_or claims k d).vertex
stamp_read J [] looks k d e keys st lt = absurd (omega (arith, lt))
stamp_read J (c ∷ claims) [] k d e keys st lt = absurd (let z = ap (λ (l : List ℕ). length l) keys in omega (arith, z))
stamp_read J (c ∷ claims) (l ∷ looks) zero d e keys st lt = st.0 ∙ ap (last J) (first keys)
  where
    first : vertices (hands_of (l ∷ looks)) ≡ claimed (c ∷ claims) → l.star.centre ≡ c.vertex
    first q = cc
stamp_read J (c ∷ claims) (l ∷ looks) (suc k) d e keys st lt = stamp_read J claims looks k d e (rest keys) st.1 (omega (arith, lt))
  where
    rest : vertices (hands_of (l ∷ looks)) ≡ claimed (c ∷ claims) → vertices (hands_of looks) ≡ claimed claims
    rest q = cc

pub first_stale_at : (J : List Commit) (claims : List Claim) (k : ℕ) (c : Claim) → k < length claims → c ≡ get_or claims k c → AllByRecursion (IsFresh J) (take k claims) → ¬ IsFresh J c → IsFirstStale J claims k c
first_stale_at J claims k c lt at before ne = record { within = lt; at = sym at; before = before; stale = ne }

-- a claim that is fresh, by the stamp in hand
pub more_fresh : (J : List Commit) (claims : List Claim) (k : ℕ) (c : Claim) → k < length claims → c ≡ get_or claims k c → AllByRecursion (IsFresh J) (take k claims) → IsFresh J c → AllByRecursion (IsFresh J) (take (k + 1) claims)
more_fresh J claims k c lt at before fresh = each_more (IsFresh J) claims k c lt before (subst (IsFresh J) at fresh)

pub stamp_at_is : (J : List Commit) (claims : List Claim) (looks : List Look) (k n : ℕ) (c : Claim) → vertices (hands_of looks) ≡ claimed claims → AreStamped J (hands_of looks) → k < length claims → c ≡ get_or claims k c
    → ((d : Look) → n ≡ (get_or looks k d).stamp) → n ≡ last J c.vertex
stamp_at_is J claims looks k n c keys st lt at read =
    read no_look ∙ (stamp_read J claims looks k c no_look keys st lt ∙ ap (λ (x : Claim). last J x.vertex) (sym at))

pub all_fresh : (J : List Commit) (claims : List Claim) (k : ℕ) → length claims ≤ k → AllByRecursion (IsFresh J) (take k claims) → AllByRecursion (IsFresh J) claims
all_fresh J claims k all h = subst (AllByRecursion (IsFresh J)) (take_all k claims all) h
