-- What rounds add to a legal journal: legal commits of caller 1 in which the Keeps don't cost more than the Drops.
use Rattle.std.proofs.Common.{◌≡◌, ℕ, zero, suc, ◌+◌, ◌*◌, ◌≤◌, ◌%◌, List, [], ◌∷◌, ◌++◌, length, take, inl, inr, arith, sym, ◌∙◌, ap, subst, refl, Some, None, Option, append_assoc, append-nil, length-append}
use Rattle.std.specs.List.{AllByRecursion}
use Rattle.std.proofs.lemmas.List.{length-take}
use Rattle.plane.specs.declared.coordinates.Point.{Point}
use Rattle.plane.specs.declared.segment.Pair.{Pair}
use Rattle.star.specs.Stars.{Seen}
use Rattle.cost_defs.specs.Costs.{Costed}
use Rattle.journal_defs.specs.declared.edit.Edit.{Edit}
use Rattle.journal_defs.specs.declared.commit.Commit.{Commit}
use Rattle.journal_defs.specs.Journal.{replay, IsLegalJournal}
use Rattle.journal_defs.specs.Neighbours.{star_list}
use Rattle.journal_defs.specs.Weave.{next_commit}
use Rattle.journal_defs.proofs.laws.Later.{legal_more}
use Rattle.hands.proofs.Laws.{each_append}
use Rattle.plan_defs.specs.declared.moves.Move.{Move}
use Rattle.plan_defs.specs.declared.moves.Move.TheVariants.{DropOne, Swap, Trade, FlipOne, FlipSwap}
use Rattle.plan_defs.specs.Plans.{Sight, HasEdits, IsNoDearer, IsFound, star_in, drops_of}
use Rattle.round_defs.specs.Candidates.{kinds}
use Rattle.round_defs.specs.Rounds.{looks, IsFirst, AreFirsts, ArePlans, IsHanded, AreHanded, IsRound, AreRounds}
use Rattle.round_defs.specs.Grown.{IsOwn, IsGrown}

abbrev pub HaveSize : List Edit → Type 0
HaveSize es = (1 ≤ length es) × (length es ≤ 8)

few_drops : (e : Pair) (second : Option Pair) → (1 ≤ length (drops_of e second)) × (length (drops_of e second) ≤ 2)
few_drops e None = (omega arith, omega arith)
few_drops e (Some d) = (omega arith, omega arith)

-- a move's edits are few
pub move_size : (S : List Point) (at : ℕ → Seen) (m : Move) (es : List Edit) → HasEdits S at m es → HaveSize es
move_size S at (DropOne e) es h = subst (λ (x : List Edit). HaveSize x) (sym h) (omega arith, omega arith)
move_size S at (Swap e first second) es h = let r = few_drops first second in subst (λ (x : List Edit). HaveSize x) (sym h) (omega arith, omega (arith, r.1))
move_size S at (Trade a b c d) es h = subst (λ (x : List Edit). HaveSize x) (sym h) (omega arith, omega arith)
move_size S at (FlipOne e) es (f, across, h) = subst (λ (x : List Edit). HaveSize x) (sym h) (omega arith, omega arith)
move_size S at (FlipSwap e first second) es (f, across, h) = let r = few_drops first second in subst (λ (x : List Edit). HaveSize x) (sym h) (omega arith, omega (arith, r.1))

-- what every plan is
abbrev pub IsGood : List Costed → List Edit → Type 0
IsGood D es = HaveSize es × IsNoDearer D es

pub found_good : (S : List Point) (D : List Costed) (R : List Sight) (m : Move) (es : List Edit) → IsFound S D R m (Some es) → IsGood D es
found_good S D R m es (has, fits) = (move_size S (star_in S R) m es has, fits.cheap)

pub first_good : (S : List Point) (D : List Costed) (R : List Sight) (ms : List Move) (es : List Edit) → IsFirst S D R ms (Some es) → IsGood D es
first_good S D R [] es h = absurd (let e : Some es ≡ None = h in cc)
first_good S D R (m ∷ ms) es (inl (fs, found, is)) = let e : fs ≡ es = cc in subst (λ (x : List Edit). IsGood D x) e (found_good S D R m fs found)
first_good S D R (m ∷ ms) es (inr (none, rest)) = first_good S D R ms es rest

-- each plan is good
abbrev pub AreGood : List Costed → List (List Edit) → Type 0
AreGood D plans = AllByRecursion (IsGood D) plans

pub firsts_good : (S : List Point) (D : List Costed) (R : List Sight) (ks : List (List Move)) (ps : List (List Edit)) → AreFirsts S D R ks ps → AreGood D ps
firsts_good S D R [] ps h = subst (AreGood D) (sym h) tt
firsts_good S D R (ms ∷ ks) ps (inl (p, first, (rest, is, more))) = subst (AreGood D) (sym is) (first_good S D R ms p first, firsts_good S D R ks rest more)
firsts_good S D R (ms ∷ ks) ps (inr (none, more)) = firsts_good S D R ks ps more

good_take : (D : List Costed) (k : ℕ) (ps : List (List Edit)) → AreGood D ps → AreGood D (take k ps)
good_take D zero ps h = tt
good_take D (suc k) [] h = tt
good_take D (suc k) (p ∷ ps) h = (h.0, good_take D k ps h.1)

pub plans_good : (S : List Point) (D : List Costed) (R : List Sight) (v k : ℕ) (ps : List (List Edit)) → ArePlans S D R v k ps → AreGood D ps × (length ps ≤ 4)
plans_good S D R v k ps (all, firsts, is) =
    subst (λ (x : List (List Edit)). AreGood D x × (length x ≤ 4)) (sym is)
    (good_take D 4 all (firsts_good S D R (kinds R v k) all firsts), (let few = length-take 4 all in omega (arith, few)))

-- nothing added, one commit added, and one growth after another
grown_none : (S : List Point) (D : List Costed) (start : List Pair) (J : List Commit) → IsLegalJournal S start J → IsGrown S D start 0 J J
grown_none S D start J legal = record { more = []; is = sym (append-nil J); own = tt; few = omega arith; legal = legal }

pub hand_grown : (S : List Point) (D : List Costed) (start : List Pair) (J J' : List Commit) (es : List Edit) → IsLegalJournal S start J → IsGood D es → IsHanded S start J es J' → IsGrown S D start 1 J J'
hand_grown S D start J J' es legal good (inl (may, is)) = record {
  more = next_commit J 1 es ∷ [];
  is = is;
  own = ((refl, good.1), tt);
  few = omega arith;
  legal = subst (λ (x : List Commit). IsLegalJournal S start x) (sym is) (legal_more S start J (next_commit J 1 es) legal good.0 may refl);
}
hand_grown S D start J J' es legal good (inr (not, is)) = record {
  more = [];
  is = is ∙ sym (append-nil J);
  own = tt;
  few = omega arith;
  legal = subst (λ (x : List Commit). IsLegalJournal S start x) (sym is) legal;
}

pub grown_on : (S : List Point) (D : List Costed) (start : List Pair) (m n : ℕ) (J K L : List Commit) → IsGrown S D start m J K → IsGrown S D start n K L → IsGrown S D start (m + n) J L
grown_on S D start m n J K L a b = record {
  more = a.more ++ b.more;
  is = b.is ∙ ap (λ (x : List Commit). x ++ b.more) a.is ∙ append_assoc J a.more b.more;
  own = each_append (IsOwn D) a.more b.more a.own b.own;
  few = let p = a.few in let q = b.few in let r = length-append a.more b.more in omega (arith, p, q, r);
  legal = b.legal;
}

pub grown_more : (S : List Point) (D : List Costed) (start : List Pair) (m n : ℕ) (J K : List Commit) → m ≤ n → IsGrown S D start m J K → IsGrown S D start n J K
grown_more S D start m n J K h a = record { more = a.more; is = a.is; own = a.own; few = let p = a.few in omega (arith, h, p); legal = a.legal }

pub handed_grown : (S : List Point) (D : List Costed) (start : List Pair) (J J' : List Commit) (ps : List (List Edit)) → IsLegalJournal S start J → AreGood D ps → AreHanded S start J ps J' → IsGrown S D start (length ps) J J'
handed_grown S D start J J' [] legal good is = subst (λ (x : List Commit). IsGrown S D start 0 J x) (sym is) (grown_none S D start J legal)
handed_grown S D start J J' (p ∷ ps) legal good (next, one, more) =
    let a = hand_grown S D start J next p legal good.0 one in
    grown_more S D start (1 + length ps) (length (p ∷ ps)) J J' (omega arith)
    (grown_on S D start 1 (length ps) J next J' a (handed_grown S D start next J' ps a.legal good.1 more))

-- a round adds at most four commits
pub round_grown : (S : List Point) (D : List Costed) (start : List Pair) (J J' : List Commit) (a b : ℕ) → IsLegalJournal S start J → IsRound S D start J a b J' → IsGrown S D start 4 J J'
round_grown S D start J J' a b legal (ps, are, handed) =
    let v = a % length S in
    let good = plans_good S D (looks S start J v) v (b % length (star_list S (replay start J) v)) ps are in
    grown_more S D start (length ps) 4 J J' good.1 (handed_grown S D start J J' ps legal good.0 handed)

pub rounds_grown : (S : List Point) (D : List Costed) (start : List Pair) (J J' : List Commit) (words : List (ℕ × ℕ)) → IsLegalJournal S start J → AreRounds S D start J words J' → IsGrown S D start (4 * length words) J J'
rounds_grown S D start J J' [] legal is = subst (λ (x : List Commit). IsGrown S D start (4 * 0) J x) (sym is) (grown_more S D start 0 (4 * 0) J J (omega arith) (grown_none S D start J legal))
rounds_grown S D start J J' (w ∷ words) legal (next, one, more) =
    let a = round_grown S D start J next w.0 w.1 legal one in
    grown_more S D start (4 + 4 * length words) (4 * length (w ∷ words)) J J' (omega arith)
    (grown_on S D start 4 (4 * length words) J next J' a (rounds_grown S D start next J' words a.legal more))

-- some rounds after others
pub rounds_on : (S : List Point) (D : List Costed) (start : List Pair) (J K L : List Commit) (words more : List (ℕ × ℕ)) → AreRounds S D start J words K → AreRounds S D start K more L → AreRounds S D start J (words ++ more) L
rounds_on S D start J K L [] more is next = subst (λ (x : List Commit). AreRounds S D start x more L) is next
rounds_on S D start J K L (w ∷ words) more (first, one, rest) next = (first, one, rounds_on S D start first K L words more rest next)
