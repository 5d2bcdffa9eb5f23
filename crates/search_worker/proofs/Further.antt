-- What a pass has stays what it has: through each call of the board, and through several.
use Rattle.std.proofs.Common.{◌≡◌, ℕ, List, [], ◌∷◌, ◌++◌, take, inl, inr, sym, ◌∙◌, ap, refl, append_assoc, append-nil}
use Rattle.journal_defs.specs.declared.edit.Edit.{Edit}
use Rattle.journal_defs.specs.declared.edit.Claim.{Claim}
use Rattle.hands.specs.declared.refusal.Refusal.{Refusal}
use Rattle.hands.specs.declared.refusal.Refusal.TheVariants.{Busy, Stale, Ahead, NoMemory, Illegal, Full}
use Rattle.edit.specs.declared.look.Look.{Look}
use Rattle.edit.specs.Plans.{Planned}
use Rattle.hands.specs.Answers.{claimed}
use Rattle.seats.specs.Ground.{Ground}
use Rattle.seats.specs.Seats.{SeatSeen}
use Rattle.board.specs.declared.board.LookFault.{LookFault}
use Rattle.board.specs.declared.board.LookFault.TheVariants.{Busy as BusyAt, NoMemory as Lack}
use Rattle.board.specs.Answers.{IsLeft, IsEarly, IsLate, IsRefused, IsEntered}
use Rattle.board.specs.Looks.{IsShown, IsUnseen, IsRefreshed, IsHeldBack}
use Rattle.search_worker.specs.Working.{Begins, IsFurther}

pub begins_own : {X : Type 0} (xs : List X) → Begins xs xs
begins_own xs = ([], sym (append-nil xs))

pub begins_same : {X : Type 0} (xs ys : List X) → ys ≡ xs → Begins xs ys
begins_same xs ys e = ([], e ∙ sym (append-nil xs))

pub begins_on : {X : Type 0} (xs ys zs : List X) → Begins xs ys → Begins ys zs → Begins xs zs
begins_on xs ys zs (a, p) (b, q) = (a ++ b, q ∙ ap (λ (l : List _). l ++ b) p ∙ append_assoc xs a b)

pub further_own : (s : SeatSeen) → IsFurther s s
further_own s = record {
  of = refl;
  caller = refl;
  seen = begins_own s.seen;
  mine = begins_own s.mine;
  wins = begins_own s.wins;
  misses = begins_own s.misses;
}

pub further_on : (s t u : SeatSeen) → IsFurther s t → IsFurther t u → IsFurther s u
further_on s t u a b = record {
  of = b.of ∙ a.of;
  caller = b.caller ∙ a.caller;
  seen = begins_on s.seen t.seen u.seen a.seen b.seen;
  mine = begins_on s.mine t.mine u.mine a.mine b.mine;
  wins = begins_on s.wins t.wins u.wins a.wins b.wins;
  misses = begins_on s.misses t.misses u.misses a.misses b.misses;
}

-- where nothing was committed
left_further : (g : Ground) (old new : SeatSeen) → IsLeft g old new → Begins old.wins new.wins → Begins old.misses new.misses → IsFurther old new
left_further g old new left wins misses = record {
  of = left.of;
  caller = left.caller;
  seen = (left.grown.more, left.grown.is);
  mine = begins_same old.mine new.mine left.mine;
  wins = wins;
  misses = misses;
}

pub shown_further : (g : Ground) (old new : SeatSeen) (v : ℕ) (look : Look) → IsShown g old new v look → IsFurther old new
shown_further g old new v look h = left_further g old new h.left (v ∷ [], h.wins) (begins_same old.misses new.misses h.misses)

pub unseen_further : (g : Ground) (old new : SeatSeen) (v : ℕ) (f : LookFault) → IsUnseen g old new v f → IsFurther old new
unseen_further g old new v (BusyAt place holder) h = left_further g old new h.1 (begins_same old.wins new.wins h.2) ((v, holder) ∷ [], h.3)
unseen_further g old new v Lack h = left_further g old new h.0 (v ∷ [], h.1) (begins_same old.misses new.misses h.2)

pub refreshed_further : (g : Ground) (old new : SeatSeen) (p f : Planned) → IsRefreshed g old new p f → IsFurther old new
refreshed_further g old new p f h = left_further g old new h.left (claimed p.claims, h.wins) (begins_same old.misses new.misses h.misses)

pub held_further : (g : Ground) (claims : List Claim) (old new : SeatSeen) (place holder : ℕ) → IsHeldBack g claims old new place holder → IsFurther old new
held_further g claims old new place holder h = left_further g old new h.left (take h.k (claimed claims), h.wins) ((place, holder) ∷ [], h.misses)

pub entered_further : (g : Ground) (edits : List Edit) (claims : List Claim) (old new : SeatSeen) (n : ℕ) → IsEntered g edits claims old new n → IsFurther old new
entered_further g edits claims old new n h = record {
  of = h.of;
  caller = h.caller;
  seen = begins_on old.seen h.before new.seen (h.grown.more, h.grown.is) (_, h.seen);
  mine = (_, h.mine);
  wins = (_, h.won.wins);
  misses = (h.won.tries.missed, h.won.tries.is);
}

early_further : (g : Ground) (edits : List Edit) (claims : List Claim) (old new : SeatSeen) (r : Refusal) → IsEarly g edits claims old new r → IsFurther old new
early_further g edits claims old new (Busy place holder) h = left_further g old new h.left (take h.k (claimed claims), h.wins) ((place, holder) ∷ [], h.misses)
early_further g edits claims old new (Stale v n) h = left_further g old new h.0.left (claimed claims, h.0.wins) (begins_same old.misses new.misses h.0.misses)
early_further g edits claims old new (Ahead v n) h = left_further g old new h.0.left (claimed claims, h.0.wins) (begins_same old.misses new.misses h.0.misses)
early_further g edits claims old new NoMemory h = left_further g old new h.0.left (claimed claims, h.0.wins) (begins_same old.misses new.misses h.0.misses)
early_further g edits claims old new (Illegal k why) h = left_further g old new h.0.left (claimed claims, h.0.wins) (begins_same old.misses new.misses h.0.misses)
early_further g edits claims old new Full h = absurd h

late_further : (g : Ground) (edits : List Edit) (claims : List Claim) (old new : SeatSeen) (r : Refusal) → IsLate g edits claims old new r → IsFurther old new
late_further g edits claims old new (Busy place holder) h =
    left_further g old new h.left (claimed claims, h.wins)
    (begins_on old.misses h.before new.misses (h.tries.missed, h.tries.is) ((place, holder) ∷ [], h.misses))
late_further g edits claims old new Full h = left_further g old new h.left (_, h.won.wins) (h.won.tries.missed, h.won.tries.is)
late_further g edits claims old new (Stale v n) h = absurd h
late_further g edits claims old new (Ahead v n) h = absurd h
late_further g edits claims old new NoMemory h = absurd h
late_further g edits claims old new (Illegal k why) h = absurd h

pub refused_further : (g : Ground) (edits : List Edit) (claims : List Claim) (old new : SeatSeen) (r : Refusal) → IsRefused g edits claims old new r → IsFurther old new
refused_further g edits claims old new r (inl h) = early_further g edits claims old new r h
refused_further g edits claims old new r (inr h) = late_further g edits claims old new r h
