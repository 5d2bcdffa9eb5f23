-- A star that has taken the step of an edit.
use Rattle.std.proofs.Common.{◌≡◌, ◌≢◌, ℕ, ◌+◌, ◌-◌, Bool, true, false, List, inl, inr, arith, sym, ap, subst}
use Rattle.std.proofs.lemmas.Bool.{false_from_ne_true}
use Rattle.plane.specs.declared.coordinates.Point.{Point}
use Rattle.plane.specs.declared.segment.Pair.{Pair}
use Rattle.plane.specs.Accepted.{AreAccepted}
use Rattle.partition_defs.specs.Partition.{HasEnds}
use Rattle.star.specs.Stars.{Seen, IsStar, Marks, Gains, Loses, SamePlace}
use Rattle.journal_defs.specs.declared.edit.Edit.TheVariants.{Drop, Keep, Flip}
use Rattle.journal_defs.specs.Edits.{is_end}
use Rattle.journal_defs.proofs.laws.Members.{not_end}
use Rattle.planner.specs.Steps.{CanFlip, HasStepped}
use Rattle.planner.proofs.Lists.{marked_step, left_step, put_step}

marks_place : (a b : Seen) (w : ℕ) (m : Bool) → Marks a b w m → SamePlace a b × (b.spare ≡ a.spare)
marks_place a b w m (k, stands, is) = ((ap (λ (x : Seen). x.centre) is, ap (λ (x : Seen). x.points) is), ap (λ (x : Seen). x.spare) is)

ends_at : (e : Pair) (v c w : ℕ) → v ≡ c → HasEnds e v w → HasEnds e c w
ends_at e v c w same ends = subst (λ (n : ℕ). HasEnds e n w) same ends

pub drop_stepped : (S : List Point) (e : Pair) (a b : Seen) (v w : ℕ) → S ≡ a.points → v ≡ a.centre → HasEnds e v w → IsStar a → Marks a b w false → IsStar b → HasStepped S (Drop e) a b
drop_stepped S e a b v w of at ends so mark star = let (place, room) = marks_place a b w false mark in record {
  list = marked_step S e a b w false (sym of) so (ends_at e v a.centre w at ends) mark;
  place = place;
  order = star;
  room = room;
}

pub keep_stepped : (S : List Point) (e : Pair) (a b : Seen) (v w : ℕ) → S ≡ a.points → v ≡ a.centre → HasEnds e v w → IsStar a → Marks a b w true → IsStar b → HasStepped S (Keep e) a b
keep_stepped S e a b v w of at ends so mark star = let (place, room) = marks_place a b w true mark in record {
  list = marked_step S e a b w true (sym of) so (ends_at e v a.centre w at ends) mark;
  place = place;
  order = star;
  room = room;
}

off_end : (e : Pair) (v w : ℕ) → (is_end e v ≡ true → ⊥) → ¬ HasEnds e v w
off_end e v w off = not_end e v w (false_from_ne_true (is_end e v) off)

pub out_stepped : (S : List Point) (e f : Pair) (a b : Seen) (v w : ℕ) → S ≡ a.points → v ≡ a.centre → HasEnds e v w → is_end e a.centre ≡ true → CanFlip S e f a → IsStar a → Loses a b w → b.spare ≡ a.spare + 1 → SamePlace a b → IsStar b → HasStepped S (Flip e f) a b
out_stepped S e f a b v w of at ends own can so lost spare place star = record {
  list = left_step S e f a b w (sym of) so (ends_at e v a.centre w at ends) (λ x. off_end f a.centre x (λ t. can.apart own t)) lost;
  place = place;
  order = star;
  room = rw own spare;
}

pub in_stepped : (S : List Point) (e f : Pair) (a b : Seen) (v w : ℕ) → AreAccepted S → S ≡ a.points → v ≡ a.centre → HasEnds f v w → is_end f a.centre ≡ true → CanFlip S e f a → Gains a b w → b.spare + 1 ≡ a.spare → SamePlace a b → IsStar b → HasStepped S (Flip e f) a b
in_stepped S e f a b v w accepted of at ends own can gained spare place star =
    let off : is_end e a.centre ≡ false = false_from_ne_true (is_end e a.centre) (λ t. can.apart t own) in
    let less : b.spare ≡ a.spare - 1 = omega (arith, spare) in
    record {
      list = put_step S e f a b w accepted (sym of) place star (ends_at f v a.centre w at ends) (λ x. off_end e a.centre x (λ t. can.apart t own)) gained;
      place = place;
      order = star;
      room = rw off less;
    }

pub other_apart : (f : Pair) (v w : ℕ) → HasEnds f v w → w ≢ v
other_apart f v w (inl h) = let o = f.ordered in omega (arith, h.0, h.1, o)
other_apart f v w (inr h) = let o = f.ordered in omega (arith, h.0, h.1, o)
