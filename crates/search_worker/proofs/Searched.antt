-- Rounds one after the other.
use Rattle.std.proofs.Common.{◌≡◌, ℕ, ◌+◌, ◌-◌, ◌*◌, ◌<◌, ◌≤◌, List, ◌++◌, length, arith, sym, ◌∙◌, ap, subst, refl, length-append}
use Rattle.cost_defs.specs.Costs.{Costed}
use Rattle.journal_defs.specs.declared.commit.Commit.{Commit}
use Rattle.journal_defs.specs.Journal.{IsLegalJournal}
use Rattle.rand_pcg.specs.Lcg.{Lcg}
use Rattle.rand_pcg.specs.Pcg.{pcg32}
use Rattle.search_defs.specs.Words.{at_position, stream_word, round_words}
use Rattle.search_defs.proofs.laws.Words.{two_words, words_left}
use Rattle.round_defs.specs.Rounds.{IsRound, AreRounds, IsSearched}
use Rattle.round_defs.proofs.laws.Grown.{round_grown}
use Rattle.seats.specs.Ground.{Ground}
use Rattle.seats.specs.Seats.{SeatSeen, ground_of}
use Rattle.board.specs.Passes.{IsPass}
use Rattle.search_worker.specs.declared.log.WorkLog.{WorkLog}
use Rattle.search_worker.specs.Working.{tries, HasAdded, IsFurther}
use Rattle.search_worker.specs.Turning.{HasTurned}
use Rattle.search_worker.proofs.Counted.{added_none, added_on, added_as}
use Rattle.search_worker.proofs.Further.{further_own, further_on}

-- a caller who works alone is the first
pub caller_one : (s : SeatSeen) → IsPass s → s.of.callers ≡ 1 → s.caller ≡ 1
caller_one s h alone = let a = h.seat.least in let b = h.seat.most in omega (arith, a, b, alone)

-- after k of the rounds
pub record IsSearching (g : Ground) (D : List Costed) (rounds seed k : ℕ) (old now : SeatSeen) (words : Lcg) (log : WorkLog) : Type 0 where
  pub further : IsFurther old now
  pub added : HasAdded D log.committed old now
  pub committed : log.committed ≤ log.tried
  pub tried : log.tried ≤ 4 * k
  pub tries : tries old + k ≤ tries now
  pub drawn : g.callers ≡ 1 → words ≡ at_position 1 seed (2 * k)
  pub long : g.callers ≡ 1 → length old.seen + 4 * rounds ≤ g.room → length now.seen ≤ length old.seen + 4 * k
  pub leads : g.callers ≡ 1 → length old.seen + 4 * rounds ≤ g.room → (out : List Commit)
      → AreRounds g.points D g.start now.seen (round_words 1 seed k (rounds - k)) out → AreRounds g.points D g.start old.seen (round_words 1 seed 0 rounds) out

pub search_begun : (g : Ground) (D : List Costed) (rounds seed : ℕ) (s : SeatSeen) (words : Lcg) (log : WorkLog) → (g.callers ≡ 1 → words ≡ at_position 1 seed 0)
    → (log.tried ≡ 0) × (log.committed ≡ 0) → IsSearching g D rounds seed 0 s s words log
search_begun g D rounds seed s words log begun none = record {
  further = further_own s;
  added = added_as D 0 log.committed s s (sym none.1) (added_none D s s refl);
  committed = let c = none.1 in omega (arith, c);
  tried = let t = none.0 in omega (arith, t);
  tries = omega arith;
  drawn = λ alone. begun alone;
  long = λ alone room. omega arith;
  leads = λ alone room out h.
      let W : ℕ → Type 0 = λ n. AreRounds g.points D g.start s.seen (round_words 1 seed 0 n) out in
      let left : rounds - 0 ≡ rounds = omega arith in subst W left h;
}

-- one round more
pub search_more : (g : Ground) (D : List Costed) (rounds seed k : ℕ) (old now next : SeatSeen) (words then : Lcg) (log one sum : WorkLog)
    → now.of ≡ old.of → g ≡ ground_of now.of → IsPass now → k < rounds → IsSearching g D rounds seed k old now words log
    → HasTurned g D now next words then one → tries now + 1 ≤ tries next → IsFurther now next
    → sum.tried ≡ log.tried + one.tried → sum.committed ≡ log.committed + one.committed → IsSearching g D rounds seed (k + 1) old next then sum
search_more g D rounds seed k old now next words then log one sum of ground valid less so turned more further tried committed = record {
  further = further_on old now next so.further further;
  added = added_as D (log.committed + one.committed) sum.committed old next (sym committed) (added_on D log.committed one.committed old now next so.added turned.added);
  committed = let a = so.committed in let b = turned.few.committed in omega (arith, a, b, tried, committed);
  tried = let a = so.tried in let b = turned.few.tried in omega (arith, a, b, tried);
  tries = let a = so.tries in omega (arith, a, more);
  drawn = λ alone. (drawing alone).2;
  long = λ alone room.
      let a = so.long alone room in
      let grown = round_grown g.points D g.start now.seen next.seen (pcg32 words).0 (pcg32 (pcg32 words).1).0 legal (turned.round alone (there alone room)) in
      let e : length next.seen ≡ length (now.seen ++ grown.more) = ap length grown.is in
      let l = length-append now.seen grown.more in
      let f = grown.few in omega (arith, a, e, l, f);
  leads = λ alone room out h.
      let d = drawing alone in
      let round = turned.round alone (there alone room) in
      let A : ℕ → Type 0 = λ a. IsRound g.points D g.start now.seen a (pcg32 (pcg32 words).1).0 next.seen in
      let B : ℕ → Type 0 = λ b. IsRound g.points D g.start now.seen (stream_word 1 seed (2 * k)) b next.seen in
      let W : List (ℕ × ℕ) → Type 0 = λ ws. AreRounds g.points D g.start now.seen ws out in
      so.leads alone room out (subst W (sym (words_left 1 seed k rounds less)) (next.seen, subst B d.1 (subst A d.0 round), h));
} where
  drawing : g.callers ≡ 1 → ((pcg32 words).0 ≡ stream_word 1 seed (2 * k)) × ((pcg32 (pcg32 words).1).0 ≡ stream_word 1 seed (2 * k + 1)) × (then ≡ at_position 1 seed (2 * (k + 1)))
  drawing alone =
      let d = two_words 1 seed k (pcg32 words).0 (pcg32 (pcg32 words).1).0 words (pcg32 words).1 (pcg32 (pcg32 words).1).1 (so.drawn alone) refl refl in
      (d.0, d.1, turned.drawn alone ∙ d.2)

  there : g.callers ≡ 1 → length old.seen + 4 * rounds ≤ g.room → length now.seen + 4 ≤ g.room
  there alone room = let a = so.long alone room in omega (arith, a, room, less)

  legal : IsLegalJournal g.points g.start now.seen
  legal = subst (λ (x : Ground). IsLegalJournal x.points x.start now.seen) (sym ground) valid.seat.legal

-- all rounds
pub search_ended : (g : Ground) (D : List Costed) (rounds seed k : ℕ) (old now : SeatSeen) (words : Lcg) (log : WorkLog) → rounds ≤ k → IsSearching g D rounds seed k old now words log
    → g.callers ≡ 1 → length old.seen + 4 * rounds ≤ g.room → IsSearched g.points D g.start old.seen rounds seed now.seen
search_ended g D rounds seed k old now words log end so alone room =
    let W : ℕ → Type 0 = λ n. AreRounds g.points D g.start now.seen (round_words 1 seed k n) now.seen in
    let none : 0 ≡ rounds - k = omega (arith, end) in
    so.leads alone room now.seen (subst W none refl)
