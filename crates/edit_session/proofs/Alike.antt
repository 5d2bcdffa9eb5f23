-- Two plays of the same commands are replied alike.
use Rattle.std.proofs.Common.{◌≡◌, ℕ, zero, suc, ◌-◌, ◌<◌, inl, inr, List, [], ◌∷◌, ◌++◌, length, take, slice_index_or, arith, sym, ◌∙◌, ap, subst, refl}
use Rattle.std.specs.List.{All, AllZip}
use Rattle.std.proofs.lemmas.Bool.{cases_lt}
use Rattle.std.proofs.lemmas.List.{length-append}
use Rattle.std.proofs.lemmas.List.Elements.{All-head, All-tail, All-get_or}
use Rattle.plane.specs.declared.coordinates.Point.{Point}
use Rattle.plane.specs.declared.segment.Pair.{Pair}
use Rattle.plane.specs.Accepted.{AreAccepted}
use Rattle.cost_defs.specs.Costs.{Costed}
use Rattle.price_defs.specs.declared.row.Row.{Row}
use Rattle.price_defs.specs.Loads.{value}
use Rattle.price_defs.proofs.laws.Duality.{border_cost_once}
use Rattle.raise_laws.proofs.laws.Once.{raised_floor_once}
use Rattle.journal_defs.specs.declared.edit.Edit.{Edit}
use Rattle.journal_defs.specs.declared.edit.Edit.TheVariants.{Drop, Keep, Flip}
use Rattle.journal_defs.specs.declared.edit.Why.{Why}
use Rattle.journal_defs.specs.declared.commit.Commit.{Commit as TheCommit}
use Rattle.journal_defs.specs.Edits.{State, IsSound, IsLegal, after, inverse_all}
use Rattle.journal_defs.specs.Journal.{replay, after_all, AreLegal, IsFirstIllegal}
use Rattle.journal_defs.specs.Neighbours.{IsWhy, star_value}
use Rattle.journal_defs.specs.Weave.{next_commit}
use Rattle.journal_defs.proofs.laws.Edits.{sound_after_all}
use Rattle.journal_defs.proofs.laws.Table.{one_refusal_drop, one_refusal_keep, one_refusal_flip}
use Rattle.journal_defs.proofs.laws.Turned.{value_is_star}
use Rattle.replay.specs.Applied.{IsWithin, AreWithin, IsFirstFault}
use Rattle.rewind.specs.Undone.{IsInverseOf}
use Rattle.rewind.proofs.laws.Earlier.{IsPast, sound_now}
use Rattle.rewind.proofs.laws.Undoing.{none_first}
use Rattle.edit_session.specs.declared.command.EditCommand.{EditCommand}
use Rattle.edit_session.specs.declared.command.EditCommand.TheVariants.{Look, Commit, Undo, Bound}
use Rattle.edit_session.specs.declared.command.Reply.{Reply}
use Rattle.edit_session.specs.declared.command.Reply.TheVariants as told
use Rattle.edit_session.specs.Bounds.{IsRaisedValue}
use Rattle.edit_session.specs.Sessions.{Session, Grows, IsCommandOf, IsReplied, AreReplied, opened}
use Rattle.edit_session.specs.Laws.{AreAlike, RepliesBegin}
use Rattle.edit_session.proofs.Replies.{IsGoing, going_next, session_one}

-- what stands at one place is one
once_at : {X : Type 0} (xs : List X) (k : ℕ) (a b : X) → k < length xs → slice_index_or xs k a ≡ a → slice_index_or xs k b ≡ b → a ≡ b
once_at [] k a b h x y = absurd (omega arith)
once_at (z ∷ xs) zero a b h x y = sym x ∙ y
once_at (z ∷ xs) (suc k) a b h x y = once_at xs k a b (omega arith) x y

inverse_once : (J : List TheCommit) (number : ℕ) (a b : List Edit) → IsInverseOf J number a → IsInverseOf J number b → a ≡ b
inverse_once J number a b h k =
    let low : number - 1 < length J = (let has = h.numbered.has in omega (arith, has.0, has.1)) in
    let same : h.commit ≡ k.commit = once_at J (number - 1) h.commit k.commit low h.numbered.at k.numbered.at in
    h.inverse ∙ ap (λ (c : TheCommit). inverse_all c.edits) same ∙ sym k.inverse

none_ends : (xs : List ℕ) (a : ℕ) → xs ++ a ∷ [] ≡ [] → ⊥
none_ends xs a h = let n = ap length h in let m = length-append xs (a ∷ []) in omega (arith, n, m)

-- lists with one more number at the end
ends_once : (xs ys : List ℕ) (a b : ℕ) → xs ++ a ∷ [] ≡ ys ++ b ∷ [] → (xs ≡ ys) × (a ≡ b)
ends_once [] [] a b h = (refl, cc)
ends_once [] (y ∷ ys) a b h = let e : ys ++ b ∷ [] ≡ [] = cc in absurd (none_ends ys b e)
ends_once (x ∷ xs) [] a b h = let e : xs ++ a ∷ [] ≡ [] = cc in absurd (none_ends xs a e)
ends_once (x ∷ xs) (y ∷ ys) a b h =
    let e : xs ++ a ∷ [] ≡ ys ++ b ∷ [] = cc in
    let same : x ≡ y = cc in
    let rest = ends_once xs ys a b e in
    (ap (λ (z : ℕ). z ∷ xs) same ∙ ap (λ (l : List ℕ). y ∷ l) rest.0, rest.1)

legal_below : (S : List Point) (s : State) (es : List Edit) (m k : ℕ) (e : Edit) → AreLegal S s (take m es) → k < m → k < length es → slice_index_or es k e ≡ e → IsLegal S (after_all (take k es) s) e
legal_below S s [] m k e legal low h at = absurd (omega arith)
legal_below S s (x ∷ xs) zero k e legal low h at = absurd (omega arith)
legal_below S s (x ∷ xs) (suc m) zero e legal low h at = subst (IsLegal S s) at legal.0
legal_below S s (x ∷ xs) (suc m) (suc k) e legal low h at = legal_below S (after x s) xs m k e legal.1 (omega arith) (omega arith) at

first_once : (S : List Point) (s : State) (es : List Edit) (k m : ℕ) → IsFirstIllegal S s es k → IsFirstIllegal S s es m → k ≡ m
first_once S s es k m a b = elim (cases_lt k m) [
  | inl low ↦ absurd (a.illegal (legal_below S s es m k a.edit b.before low a.within a.at))
  | inr high ↦ elim (cases_lt m k) [
    | inl low ↦ absurd (b.illegal (legal_below S s es k m b.edit a.before low b.within b.at))
    | inr low ↦ omega arith
  ]
]

refusal_once : (S : List Point) (s : State) (e : Edit) (a b : Why) → AreAccepted S → IsSound S s → IsWithin (length S) e → IsWhy S s e a → IsWhy S s e b → a ≡ b
refusal_once S s (Drop e) a b accepted sound h x y = one_refusal_drop S (star_value S s) e a b x y
refusal_once S s (Keep e) a b accepted sound h x y = one_refusal_keep (star_value S s) e a b x y
refusal_once S s (Flip e f) a b accepted sound h x y =
    let order = e.ordered in
    one_refusal_flip S (star_value S s) e f a b (value_is_star S s e.lo accepted sound (omega (arith, h.0))).star (value_is_star S s e.hi accepted sound h.0).star x y

-- of two faults of edits
fault_once : (S : List Point) (s : State) (es : List Edit) (k m : ℕ) (a b : Why) → AreAccepted S → IsSound S s → AreWithin (length S) es → IsFirstFault S s es k a → IsFirstFault S s es m b → told.Illegal k a ≡ told.Illegal m b
fault_once S s es k m a b accepted sound within x y =
    let same : k ≡ m = first_once S s es k m x.first y.first in
    let other : IsFirstFault S s es k b = subst (λ (i : ℕ). IsFirstFault S s es i b) (sym same) y in
    let e : Edit = x.first.edit in
    let f : Edit = other.first.edit in
    let one : f ≡ e = once_at es k f e x.first.within other.first.at x.first.at in
    let t : State = after_all (take k es) s in
    let here : IsWhy S t e b = subst (λ (g : Edit). IsWhy S t g b) one other.tells in
    let in_points : IsWithin (length S) e = subst (IsWithin (length S)) x.first.at (All-get_or (IsWithin (length S)) es k e x.first.within within) in
    let why : a ≡ b = refusal_once S t e a b accepted (sound_after_all S s (take k es) sound x.first.before) in_points x.tells here in
    ap (λ (i : ℕ). told.Illegal i a) same ∙ ap (λ (w : Why). told.Illegal m w) why

value_once : (S : List Point) (D : List Costed) (v w : ℕ) → IsRaisedValue S D v → IsRaisedValue S D w → v ≡ w
value_once S D v w a b =
    let one = raised_floor_once S D a.q b.q a.rows b.rows a.raised b.raised in
    let (A, list, is) = a.border in
    let (B, other, its) = b.border in
    let base : a.base ≡ b.base = is ∙ border_cost_once S D A B list other ∙ sym its in
    a.is ∙ ap (λ (h : ℕ). value h a.q a.rows) base ∙ ap (λ (q : ℕ). value b.base q a.rows) one.0 ∙ ap (λ (rows : List Row). value b.base b.q rows) one.1 ∙ sym b.is

grown_once : (s t u : Session) (es fs : List Edit) (m n : ℕ) → es ≡ fs → Grows s t es m → Grows s u fs n → (t.journal ≡ u.journal) × (m ≡ n)
grown_once s t u es fs m n same a b =
    let J : t.journal ≡ u.journal = a.journal ∙ ap (λ (l : List Edit). s.journal ++ next_commit s.journal 1 l ∷ []) same ∙ sym b.journal in
    (J, a.told ∙ ap length J ∙ sym b.told)

-- a command is replied in one way
reply_once : (S : List Point) (D : List Costed) (start : List Pair) (s t u : Session) (c : EditCommand) (r q : Reply) → IsGoing S start s → IsCommandOf (length S) c
    → IsReplied S D start s c r t → IsReplied S D start s c q u → AreAlike r q × (t ≡ u)
reply_once S D start s t u (Look v) (told.Seen a m) (told.Seen b n) going h x y = (
  (record { centre = x.0.of.centre ∙ sym y.0.of.centre; list = x.0.list ∙ sym y.0.list; points = x.0.of.points ∙ sym y.0.of.points }, x.0.latest ∙ sym y.0.latest),
  x.1 ∙ sym y.1,
)
reply_once S D start s t u (Look v) (told.Seen a m) _ going h x y = absurd y
reply_once S D start s t u (Look v) _ q going h x y = absurd x
reply_once S D start s t u (Commit edits) (told.Commit m) (told.Commit n) going h x y =
    let one = grown_once s t u edits edits m n refl x.grows y.grows in (
      ap (λ (k : ℕ). told.Commit k) one.1,
      session_one t u one.0 (x.undoable ∙ ap (λ (k : ℕ). s.undoable ++ k ∷ []) one.1 ∙ sym y.undoable),
    )
reply_once S D start s t u (Commit edits) (told.Commit m) (told.Illegal at why) going h x y = absurd (none_first S (replay start s.journal) edits at x.legal y.0.first)
reply_once S D start s t u (Commit edits) (told.Commit m) _ going h x y = absurd y
reply_once S D start s t u (Commit edits) (told.Illegal at why) (told.Commit n) going h x y = absurd (none_first S (replay start s.journal) edits at y.legal x.0.first)
reply_once S D start s t u (Commit edits) (told.Illegal k a) (told.Illegal m b) going h x y = (
  fault_once S (replay start s.journal) edits k m a b going.past.accepted (sound_now S start s.journal going.past) h x.0 y.0,
  x.1 ∙ sym y.1,
)
reply_once S D start s t u (Commit edits) (told.Illegal at why) _ going h x y = absurd y
reply_once S D start s t u (Commit edits) _ q going h x y = absurd x
reply_once S D start s t u Undo (told.Commit m) (told.Commit n) going h x y =
    let ends = ends_once t.undoable u.undoable x.last y.last (sym x.undoable ∙ y.undoable) in
    let edits : x.edits ≡ y.edits = inverse_once s.journal x.last x.edits y.edits x.inverse (subst (λ (k : ℕ). IsInverseOf s.journal k y.edits) (sym ends.1) y.inverse) in
    let one = grown_once s t u x.edits y.edits m n edits x.grows y.grows in
    (ap (λ (k : ℕ). told.Commit k) one.1, session_one t u one.0 ends.0)
reply_once S D start s t u Undo (told.Commit m) told.Nothing going h x y = absurd (none_ends t.undoable x.last (sym x.undoable ∙ y.0))
reply_once S D start s t u Undo (told.Commit m) _ going h x y = absurd y
reply_once S D start s t u Undo told.Nothing (told.Commit n) going h x y = absurd (none_ends u.undoable y.last (sym y.undoable ∙ x.0))
reply_once S D start s t u Undo told.Nothing told.Nothing going h x y = (refl, x.1 ∙ sym y.1)
reply_once S D start s t u Undo told.Nothing _ going h x y = absurd y
reply_once S D start s t u Undo _ q going h x y = absurd x
reply_once S D start s t u Bound (told.Bound v m) (told.Bound w n) going h x y = (
  ap (λ (k : ℕ). told.Bound k m) (value_once S D v w x.0 y.0) ∙ ap (λ (k : ℕ). told.Bound w k) (x.1 ∙ sym y.1),
  x.2 ∙ sym y.2,
)
reply_once S D start s t u Bound (told.Bound v m) _ going h x y = absurd y
reply_once S D start s t u Bound _ q going h x y = absurd x

-- the replies to the first commands are the first replies
begins : (S : List Point) (D : List Costed) (start : List Pair) (s t u : Session) (first rest : List EditCommand) (some all : List Reply) → IsGoing S start s → All (IsCommandOf (length S)) (first ++ rest)
    → AreReplied S D start s first some t → AreReplied S D start s (first ++ rest) all u → AllZip AreAlike some (take (length first) all)
begins S D start s t u [] rest [] all going h x y = tt
begins S D start s t u [] rest (r ∷ some) all going h x y = absurd x
begins S D start s t u (c ∷ first) rest [] all going h x y = absurd x
begins S D start s t u (c ∷ first) rest (r ∷ some) [] going h x y = absurd y
begins S D start s t u (c ∷ first) rest (r ∷ some) (q ∷ all) going h (v, one, more) (w, other, later) =
    let once = reply_once S D start s v w c r q going (All-head (IsCommandOf (length S)) c (first ++ rest) h) one other in (
      once.0,
      begins S D start w t u first rest some all (going_next S D start s w c q going other) (All-tail (IsCommandOf (length S)) c (first ++ rest) h)
          (subst (λ (z : Session). AreReplied S D start z first some t) once.1 more) later,
    )

pub going_first : (S : List Point) (start : List Pair) → IsPast S start [] → IsGoing S start opened
going_first S start past = record { past = past; tower = refl }

pub replies_begin_so : (S : List Point) (start : List Pair) → IsPast S start [] → RepliesBegin S start
replies_begin_so S start past D first rest some all t u h x y = begins S D start opened t u first rest some all (going_first S start past) h x y
