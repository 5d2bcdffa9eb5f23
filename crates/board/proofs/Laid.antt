-- Cells laid one by one, and taken up.
use Rattle.std.proofs.Common.{◌≡◌, ℕ, zero, suc, ◌+◌, ◌-◌, ◌<◌, ◌≤◌, Bool, true, false, cond, eq-eqb, List, [], ◌∷◌, ◌++◌, length, get_or, drop, arith, sym, ◌∙◌, ap, subst, refl, ◌⊎◌, inl, inr, append-nil, length-append, Some}
use Rattle.std.specs.Prelude.{slice_get}
use Rattle.std.specs.List.{AllByRecursion}
use Rattle.std.proofs.lemmas.List.{get_or_push, get_or_append_left}
use mathlib.Core.Logic.{dite}
use native.Mathlib.Decide.{ℕ_discrete}
use Rattle.star.specs.Stars.{Seen}
use Rattle.star.specs.StarOf.{IsStarOf}
use Rattle.subdivision.specs.Layout.{star_at, AreStarsOf}
use Rattle.index_sets.specs.Indices.{contains, all_but, numbers_from}
use Rattle.index_sets.specs.Entries.{SparesPlace}
use Rattle.index_sets.specs.Prefixes.{longer}
use Rattle.index_sets.proofs.Laws.{contains-first, contains-left, all_but-absent, numbers_from-least}
use Rattle.chronicle.specs.History.{ChronicleSeen, ShareSeen, IsShare, GoesOn}
use Rattle.vertex_claims.specs.Holding.{AreFitting}
use Rattle.journal_defs.specs.declared.commit.Commit.{Commit}
use Rattle.journal_defs.specs.Edits.{IsSound}
use Rattle.journal_defs.specs.Journal.{replay, last, IsLegalJournal, commit_touches}
use Rattle.journal_defs.proofs.laws.Start.{sound_legal}
use Rattle.edit.specs.declared.look.Look.{Look}
use Rattle.hands.specs.Hands.{hand_of, IsRight}
use Rattle.hands.proofs.Laws.{right_of_star, star_of_right, carry_right}
use Rattle.seats.specs.declared.cells.Root.{Root}
use Rattle.seats.specs.declared.cells.Cell.{Cell}
use Rattle.seats.specs.declared.cells.Cell.TheVariants.{Vertex}
use Rattle.seats.specs.Ground.{caller_of}
use Rattle.seats.specs.Cells.{IsPart, VertexFits, CellFits}
use Rattle.board.specs.Stamping.{AreStampsOf}
use Rattle.board.specs.Laying.{IsBase, IsTakenUp}

module _ {A : Type 0} where
  -- the first of what is left
  pub drop_head : (xs : List A) (k : ℕ) (y : A) (ys : List A) (d : A) → drop k xs ≡ y ∷ ys → (get_or xs k d ≡ y) × (drop (k + 1) xs ≡ ys) × (k < length xs)
  drop_head [] zero y ys d e = absurd (cc)
  drop_head [] (suc k) y ys d e = absurd (cc)
  drop_head (x ∷ xs) zero y ys d e = (ap (λ (l : List A). get_or l 0 d) e, ap (λ (l : List A). drop 1 l) e, omega arith)
  drop_head (x ∷ xs) (suc k) y ys d e =
      let r = drop_head xs k y ys d e in
      (r.0, ap (λ (n : ℕ). drop n (x ∷ xs)) (let z : suc k + 1 ≡ suc (k + 1) = omega arith in z) ∙ r.1, (let z = r.2 in omega (arith, z)))

  pub none_of : (xs : List A) → length xs ≡ 0 → xs ≡ []
  none_of [] e = refl
  none_of (x ∷ xs) e = absurd (let z : suc (length xs) ≡ 0 = e in omega (arith, z))

  pub drop_none : (xs : List A) (k : ℕ) → drop k xs ≡ [] → length xs ≤ k
  drop_none [] k e = omega arith
  drop_none (x ∷ xs) zero e = absurd (cc)
  drop_none (x ∷ xs) (suc k) e = let z = drop_none xs k e in omega (arith, z)

  -- an element of a list with one more
  pub get_snoc : (xs : List A) (x : A) (k : ℕ) (y : A) → slice_get (xs ++ x ∷ []) k ≡ Some y → (slice_get xs k ≡ Some y) ⊎ ((k ≡ length xs) × (x ≡ y))
  get_snoc [] x zero y e = inr (refl, cc)
  get_snoc [] x (suc k) y e = absurd (cc)
  get_snoc (z ∷ xs) x zero y e = inl e
  get_snoc (z ∷ xs) x (suc k) y e = elim (get_snoc xs x k y e) [
    | inl a ↦ inl a
    | inr b ↦ inr (ap suc b.0, b.1)
  ]

  pub get_before : (xs ys : List A) (k : ℕ) (y : A) → slice_get xs k ≡ Some y → slice_get (xs ++ ys) k ≡ Some y
  get_before [] ys k y e = absurd (cc)
  get_before (x ∷ xs) ys zero y e = e
  get_before (x ∷ xs) ys (suc k) y e = get_before xs ys k y e

  pub get_last : (xs : List A) (x : A) → slice_get (xs ++ x ∷ []) (length xs) ≡ Some x
  get_last [] x = refl
  get_last (y ∷ xs) x = get_last xs x

  pub get_of_drop : (xs : List A) (k : ℕ) (y : A) (ys : List A) → drop k xs ≡ y ∷ ys → slice_get xs k ≡ Some y
  get_of_drop [] zero y ys e = absurd (cc)
  get_of_drop [] (suc k) y ys e = absurd (cc)
  get_of_drop (x ∷ xs) zero y ys e = cc
  get_of_drop (x ∷ xs) (suc k) y ys e = get_of_drop xs k y ys e

-- one cell more
pub fitting_more : (r : Root) (cells : List Cell) (x : Cell) → AreFitting CellFits r cells → CellFits r (length cells) x → AreFitting CellFits r (cells ++ x ∷ [])
fitting_more r cells x all one place cell at = elim (get_snoc cells x place cell at) [
  | inl a ↦ all place cell a
  | inr b ↦ subst (λ (n : ℕ). CellFits r n cell) (sym b.0) (subst (CellFits r (length cells)) b.1 one)
]

-- the parts that are left, without the first
all_but-first : (x : ℕ) (xs : List ℕ) → contains xs x ≡ false → all_but (x ∷ xs) x ≡ xs
all_but-first x xs e = ap (λ (b : Bool). cond b (all_but xs x) (x ∷ all_but xs x)) (eq-eqb x x refl) ∙ all_but-absent xs x e

pub parts_next : (v count : ℕ) → all_but (numbers_from v (suc count)) v ≡ numbers_from (suc v) count
parts_next v count = all_but-first v (numbers_from (suc v) count) (not_there (contains (numbers_from (suc v) count) v) refl)
  where
    not_there : (b : Bool) → contains (numbers_from (suc v) count) v ≡ b → contains (numbers_from (suc v) count) v ≡ false
    not_there true e = absurd (let z = numbers_from-least (suc v) count v e in omega (arith, z))
    not_there false e = e

-- in the middle of laying: n points, k of them are laid
pub record Lays (r : Root) (first : ShareSeen Commit) (stars rest : List Seen) (whole : ShareSeen Commit) (cells : List Cell) : Type 0 where
  pub left : rest ≡ drop (length cells) stars
  pub few : length cells ≤ length r.points
  pub whole_is : whole ≡ record first { parts = numbers_from (length cells) (length r.points + 1 - length cells) }
  pub fitting : AreFitting CellFits r cells

-- the next star at its place
pub vertex_of : (r : Root) (stars rest : List Seen) (k : ℕ) (look : Look) (stamps : List ℕ) (J : List Commit) (share : ShareSeen Commit) → IsBase r → IsLegalJournal r.points r.start.items J
    → AreStarsOf r.points (replay r.start.items J).all (replay r.start.items J).kept stars → AreStampsOf J (length r.points) stamps → drop k stars ≡ look.star ∷ rest → look.stamp ≡ get_or stamps k 0
    → share.of ≡ r.chronicle → share.caller ≡ 0 → share.parts ≡ k ∷ [] → share.seen ≡ J → CellFits r k (Vertex look share)
vertex_of r stars rest k look stamps J share base legal are stamped left stamp of nobody parts seen =
    let S = r.points in
    let start = r.start.items in
    let d : Seen = record { centre = 0; list = []; spare = 0; points = [] } in
    let h = drop_head stars k look.star rest d left in
    let near : k < length S = (let z = are.0 in let y = h.2 in omega (arith, z, y)) in
    let sound : IsSound S (replay start J) = sound_legal S start J base.accepted base.ascending base.triangulation legal.edits in
    let star : IsStarOf S (replay start J).all (replay start J).kept k look.star = subst (IsStarOf S (replay start J).all (replay start J).kept k) h.0 (are.1 k near) in
    record {
      within = near;
      part = record { of = of; caller = nobody; parts = parts; legal = subst (IsLegalJournal S start) (sym seen) legal };
      centre = star.centre;
      right = subst (λ (L : List Commit). IsRight S (replay start L) (hand_of look)) (sym seen) (right_of_star S (replay start J) look k base.accepted sound near star);
      stamped = stamp ∙ (stamped.each k near ∙ (ap (last J) (sym star.centre) ∙ ap (λ (L : List Commit). last L look.star.centre) (sym seen)));
    }

pub lays_more : (r : Root) (first whole left_share part : ShareSeen Commit) (stars rest next : List Seen) (cells new : List Cell) (look : Look) (stamps : List ℕ) (J : List Commit) → IsBase r → IsLegalJournal r.points r.start.items J
    → AreStarsOf r.points (replay r.start.items J).all (replay r.start.items J).kept stars → AreStampsOf J (length r.points) stamps → first.of ≡ r.chronicle → first.seen ≡ J → Lays r first stars rest whole cells → rest ≡ look.star ∷ next
    → look.stamp ≡ get_or stamps (length cells) 0 → left_share ≡ record whole { parts = all_but whole.parts (length cells) } → part ≡ record whole { caller = 0; mine = []; parts = length cells ∷ [] } → new ≡ cells ++ Vertex look part ∷ []
    → Lays r first stars next left_share new
lays_more r first whole left_share part stars rest next cells new look stamps J base legal are stamped of seen o here stamp left_is part_is new_is =
    let k = length cells in
    let n = length r.points in
    let d : Seen = record { centre = 0; list = []; spare = 0; points = [] } in
    let at : drop k stars ≡ look.star ∷ next = sym o.left ∙ here in
    let h = drop_head stars k look.star next d at in
    let near : k < n = (let z = are.0 in let y = h.2 in omega (arith, z, y)) in
    let long : length new ≡ k + 1 = ap (λ (l : List Cell). length l) new_is ∙ length-append cells (Vertex look part ∷ []) in
    let whole_of : whole.of ≡ first.of = ap (λ (s : ShareSeen Commit). s.of) o.whole_is in
    let whole_seen : whole.seen ≡ first.seen = ap (λ (s : ShareSeen Commit). s.seen) o.whole_is in
    let fits : CellFits r k (Vertex look part) = vertex_of r stars next k look stamps J part base legal are stamped at stamp
    (ap (λ (s : ShareSeen Commit). s.of) part_is ∙ (whole_of ∙ of)) (ap (λ (s : ShareSeen Commit). s.caller) part_is) (ap (λ (s : ShareSeen Commit). s.parts) part_is)
    (ap (λ (s : ShareSeen Commit). s.seen) part_is ∙ (whole_seen ∙ seen)) in
    let parts : all_but whole.parts k ≡ numbers_from (k + 1) (n + 1 - (k + 1)) =
    ap (λ (l : List ℕ). all_but l k) (ap (λ (s : ShareSeen Commit). s.parts) o.whole_is ∙ ap (numbers_from k) (let z : n + 1 - k ≡ suc (n - k) = omega (arith, near) in z))
    ∙ (parts_next k (n - k) ∙ (ap (λ (x : ℕ). numbers_from x (n - k)) (let z : suc k ≡ k + 1 = omega arith in z) ∙ ap (numbers_from (k + 1)) (let z : n - k ≡ n + 1 - (k + 1) = omega arith in z))) in
    record {
      left = sym h.1 ∙ ap (λ (x : ℕ). drop x stars) (sym long);
      few = omega (arith, long, near);
      whole_is = left_is ∙ (ap (λ (s : ShareSeen Commit). record s { parts = all_but whole.parts k }) o.whole_is
          ∙ ap (λ (l : List ℕ). record first { parts = l }) (parts ∙ ap (λ (x : ℕ). numbers_from x (n + 1 - x)) (sym long)));
      fitting = subst (AreFitting CellFits r) (sym new_is) (fitting_more r cells (Vertex look part) o.fitting fits);
    }

pub lays_all : (r : Root) (first whole : ShareSeen Commit) (stars rest : List Seen) (cells : List Cell) → length stars ≡ length r.points → Lays r first stars rest whole cells → rest ≡ []
    → (length cells ≡ length r.points) × (whole ≡ record first { parts = length r.points ∷ [] })
lays_all r first whole stars rest cells long o none =
    let n = length r.points in
    let most = drop_none stars (length cells) (sym o.left ∙ none) in
    let all : length cells ≡ n = (let z = o.few in omega (arith, z, most, long)) in (
      all,
      o.whole_is ∙ ap (λ (l : List ℕ). record first { parts = l }) (ap (λ (x : ℕ). numbers_from x (n + 1 - x)) all ∙ ap (numbers_from n) (let z : n + 1 - n ≡ 1 = omega arith in z)),
    )

-- the part of the next place is there
pub lays_owns : (r : Root) (first whole : ShareSeen Commit) (stars rest : List Seen) (cells : List Cell) → Lays r first stars rest whole cells → contains whole.parts (length cells) ≡ true
lays_owns r first whole stars rest cells o =
    let k = length cells in
    let n = length r.points in
    ap (λ (s : ShareSeen Commit). contains s.parts k) o.whole_is
    ∙ (ap (λ (x : ℕ). contains (numbers_from k x) k) (let few = o.few in let z : n + 1 - k ≡ suc (n - k) = omega (arith, few) in z) ∙ contains-first (numbers_from (suc k) (n - k)) k)

-- in the middle of taking up: the share of the journal has seen all of it
pub record Lifts (r : Root) (J : List Commit) (cells rest : List Cell) (stars : List Seen) (whole : ShareSeen Commit) : Type 0 where
  pub left : rest ≡ drop (length stars) cells
  pub few : length stars ≤ length cells
  pub of : whole.of ≡ r.chronicle
  pub nobody : whole.caller ≡ 0
  pub seen : whole.seen ≡ J
  pub owns : contains whole.parts (length r.points) ≡ true
  pub share : IsShare caller_of whole
  pub each : (v : ℕ) → v < length stars → IsStarOf r.points (replay r.start.items J).all (replay r.start.items J).kept v (star_at stars v)

-- a share that owns the last part, and another one joined
pub whole_stays : (r : Root) (J : List Commit) (whole new : ShareSeen Commit) → IsBase r → whole.of ≡ r.chronicle → contains whole.parts (length r.points) ≡ true → GoesOn caller_of commit_touches whole new.seen → whole.seen ≡ J → new.seen ≡ J
whole_stays r J whole new base of owns g seen =
    let last : contains whole.parts whole.of.last ≡ true = ap (contains whole.parts) (ap (λ (x : ChronicleSeen Commit). x.last) of ∙ base.last) ∙ owns in
    g.is ∙ (ap (λ (l : List Commit). whole.seen ++ l) (g.whole last) ∙ (append-nil whole.seen ∙ seen))

pub lifts_more : (r : Root) (J : List Commit) (cells rest next : List Cell) (stars new : List Seen) (whole now part : ShareSeen Commit) (look : Look) → IsBase r → AreFitting CellFits r cells → Lifts r J cells rest stars whole → rest ≡ Vertex look part ∷ next
    → now ≡ record whole { seen = longer whole.seen part.seen; parts = whole.parts ++ part.parts } → GoesOn caller_of commit_touches whole now.seen → GoesOn caller_of commit_touches part now.seen → IsShare caller_of now
    → IsLegalJournal r.points r.start.items J → new ≡ stars ++ look.star ∷ [] → Lifts r J cells next new now
lifts_more r J cells rest next stars new whole now part look base fitting o here joined into from share legal new_is =
    let S = r.points in
    let start = r.start.items in
    let k = length stars in
    let d : Cell = Vertex look part in
    let d0 : Seen = record { centre = 0; list = []; spare = 0; points = [] } in
    let at : drop k cells ≡ Vertex look part ∷ next = sym o.left ∙ here in
    let h = drop_head cells k (Vertex look part) next d at in
    let f : VertexFits r k look part = fitting k (Vertex look part) (get_of_drop cells k (Vertex look part) next at) in
    let seen : now.seen ≡ J = whole_stays r J whole now base o.of o.owns into o.seen in
    let sound : IsSound S (replay start J) = sound_legal S start J base.accepted base.ascending base.triangulation legal.edits in
    let spares : SparesPlace commit_touches from.more look.star.centre = subst (SparesPlace commit_touches from.more) (sym f.centre) (subst (AllByRecursion (SparesPlace commit_touches from.more)) f.part.parts from.spares).0 in
    let right : IsRight S (replay start J) (hand_of look) = subst (λ (L : List Commit). IsRight S (replay start L) (hand_of look)) (sym from.is ∙ seen) (carry_right S start part.seen from.more (hand_of look) spares f.right) in
    let star : IsStarOf S (replay start J).all (replay start J).kept k look.star = subst (λ (v : ℕ). IsStarOf S (replay start J).all (replay start J).kept v look.star) f.centre (star_of_right S (replay start J) look base.accepted sound right) in
    let long : length new ≡ k + 1 = ap (λ (l : List Seen). length l) new_is ∙ length-append stars (look.star ∷ []) in
    record {
      left = sym h.1 ∙ ap (λ (x : ℕ). drop x cells) (sym long);
      few = (let z = h.2 in omega (arith, long, z));
      of = ap (λ (s : ShareSeen Commit). s.of) joined ∙ o.of;
      nobody = ap (λ (s : ShareSeen Commit). s.caller) joined ∙ o.nobody;
      seen = seen;
      owns = ap (λ (s : ShareSeen Commit). contains s.parts (length S)) joined ∙ contains-left whole.parts part.parts (length S) o.owns;
      share = share;
      each = λ v lt. dite (ℕ_discrete v k)
          (λ e. subst (λ (x : ℕ). IsStarOf S (replay start J).all (replay start J).kept x (star_at new x)) (sym e)
          (subst (IsStarOf S (replay start J).all (replay start J).kept k) (sym (ap (λ (l : List Seen). star_at l k) new_is ∙ get_or_push stars look.star d0 k refl)) star))
          (λ ne. let near : v < k = omega (arith, lt, long, ne) in
          subst (IsStarOf S (replay start J).all (replay start J).kept v) (sym (ap (λ (l : List Seen). star_at l v) new_is ∙ get_or_append_left stars (look.star ∷ []) d0 v near)) (o.each v near));
    }

-- the last cell is the journal's, and the others are those of points
pub journal_fact : (r : Root) (vs : List Cell) (x : Cell) (cells : List Cell) → AreFitting CellFits r cells → cells ≡ vs ++ x ∷ [] → CellFits r (length vs) x
journal_fact r vs x cells fit is = fit (length vs) x (ap (λ (l : List Cell). slice_get l (length vs)) is ∙ get_last vs x)

pub others_fit : (r : Root) (vs : List Cell) (x : Cell) (cells : List Cell) → AreFitting CellFits r cells → cells ≡ vs ++ x ∷ [] → AreFitting CellFits r vs
others_fit r vs x cells fit is place cell at = fit place cell (ap (λ (l : List Cell). slice_get l place) is ∙ get_before vs (x ∷ []) place cell at)

-- what is told of the cells but the last is told of them where they are left
pub rest_fit : (r : Root) (vs ws : List Cell) (x : Cell) (cells : List Cell) → AreFitting CellFits r cells → cells ≡ vs ++ x ∷ [] → ws ≡ vs → length cells ≡ length r.points + 1 → AreFitting CellFits r ws × (length ws ≡ length r.points)
rest_fit r vs ws x cells fit is same count =
    let more = ap (λ (l : List Cell). length l) is ∙ length-append vs (x ∷ []) in
    let long : length ws ≡ length vs = ap (λ (l : List Cell). length l) same in
    (subst (AreFitting CellFits r) (sym same) (others_fit r vs x cells fit is), omega (arith, more, long, count))

-- the next cell to take up
pub next_fact : (r : Root) (J : List Commit) (cells rest next : List Cell) (x : Cell) (stars : List Seen) (whole : ShareSeen Commit) → AreFitting CellFits r cells → Lifts r J cells rest stars whole → rest ≡ x ∷ next
    → CellFits r (length stars) x × (length stars < length cells)
next_fact r J cells rest next x stars whole fit o here =
    let at : drop (length stars) cells ≡ x ∷ next = sym o.left ∙ here in
    (fit (length stars) x (get_of_drop cells (length stars) x next at), (drop_head cells (length stars) x next x at).2)

pub lifts_none : (r : Root) (J : List Commit) (cells rest : List Cell) (stars : List Seen) (whole : ShareSeen Commit) → IsPart r (length r.points) whole → J ≡ whole.seen → rest ≡ cells → stars ≡ [] → IsShare caller_of whole → Lifts r J cells rest stars whole
lifts_none r J cells rest stars whole part same all none share = subst (λ (l : List Seen). Lifts r J cells rest l whole) (sym none) (record {
  left = all;
  few = omega arith;
  of = part.of;
  nobody = part.caller;
  seen = sym same;
  owns = ap (λ (l : List ℕ). contains l (length r.points)) part.parts ∙ contains-first [] (length r.points);
  share = share;
  each = λ v lt. absurd (let z : v < 0 = lt in omega (arith, z));
})

pub taken_up : (r : Root) (J : List Commit) (vs rest : List Cell) (stars : List Seen) (whole : ShareSeen Commit) → Lifts r J vs rest stars whole → rest ≡ [] → length vs ≡ length r.points → IsLegalJournal r.points r.start.items J → length J ≤ r.room
    → IsTakenUp r stars J whole
taken_up r J vs rest stars whole o none count legal few =
    let most = drop_none vs (length stars) (sym o.left ∙ none) in
    let least = o.few in
    let all : length stars ≡ length r.points = omega (arith, most, least, count) in
    record {
      legal = legal;
      few = few;
      round = (all, λ v lt. o.each v (omega (arith, lt, all)));
      of = o.of;
      caller = o.nobody;
      seen = o.seen;
      owns = o.owns;
      history = o.share;
    }
