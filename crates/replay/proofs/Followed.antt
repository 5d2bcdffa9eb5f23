-- Stars that follow an edit, one after the other.
use Rattle.std.proofs.Common.{◌≡◌, ℕ, ◌+◌, ◌<◌, ◌≤◌, Bool, true, false, ◌||◌, nat_eq, List, length, set, arith, sym, ◌∙◌, ap, subst, refl, get_or-set_same, get_or-set_other}
use Rattle.std.proofs.lemmas.List.{length-set}
use Rattle.std.proofs.lemmas.Bool.{false≢true, false_from_ne_true}
use Rattle.std.proofs.lemmas.Bool.Decides.{Decides-eqb}
use Rattle.plane.specs.declared.coordinates.Point.{Point}
use Rattle.plane.specs.declared.segment.Pair.{Pair}
use Rattle.star.specs.Stars.{Seen}
use Rattle.subdivision.specs.Layout.{star_at}
use Rattle.journal_defs.specs.declared.edit.Edit.{Edit}
use Rattle.journal_defs.specs.Edits.{is_end}
use Rattle.edit.specs.Steps.{IsBefore, IsAfter}
use Rattle.replay.specs.Followed.{IsReady, HaveFollowed}
use Rattle.replay.specs.Room.{spare_at, LosesRoom}
use Rattle.journal_defs.proofs.laws.Members.{ends_apart}

-- one star is written
pub followed_at : (S : List Point) (e : Edit) (old : List Seen) (v : ℕ) (star : Seen) → v < length old → IsAfter S e (star_at old v) star → HaveFollowed S e (λ w. nat_eq v w) old (set old v star)
followed_at S e old v star h so = record {
  len = length-set old v star;
  done = λ w is. (let same : v ≡ w = (Decides-eqb v w).0 is in
      let P : ℕ → Type 0 = λ x. IsAfter S e (star_at old x) (star_at (set old v star) x) in
      subst P same (subst (λ (t : Seen). IsAfter S e (star_at old v) t) (sym (get_or-set_same old v star _ h)) so));
  rest = λ w is. get_or-set_other old v w star _ (λ same. false≢true (sym is ∙ (Decides-eqb v w).1 (sym same)));
}

-- two sets of stars that have no vertex in common
pub followed_both : (S : List Point) (e : Edit) (p q : ℕ → Bool) (old mid new : List Seen) → ((v : ℕ) → p v ≡ true → q v ≡ true → ⊥)
    → HaveFollowed S e p old mid → HaveFollowed S e q mid new → HaveFollowed S e (λ v. p v || q v) old new
followed_both S e p q old mid new apart first second = record {
  len = second.len ∙ first.len;
  done = λ v. at (p v) (q v) v refl refl;
  rest = λ v. none (p v) (q v) v refl refl;
}
  where
    at : (a b : Bool) (v : ℕ) → p v ≡ a → q v ≡ b → (a || b) ≡ true → IsAfter S e (star_at old v) (star_at new v)
    at true true v ha hb h = absurd (apart v ha hb)
    at true false v ha hb h = subst (λ (t : Seen). IsAfter S e (star_at old v) t) (sym (second.rest v hb)) (first.done v ha)
    at false true v ha hb h = subst (λ (t : Seen). IsAfter S e t (star_at new v)) (first.rest v ha) (second.done v hb)
    at false false v ha hb h = absurd (false≢true h)

    none : (a b : Bool) (v : ℕ) → p v ≡ a → q v ≡ b → (a || b) ≡ false → star_at new v ≡ star_at old v
    none true true v ha hb h = absurd (false≢true (sym h))
    none true false v ha hb h = absurd (false≢true (sym h))
    none false true v ha hb h = absurd (false≢true (sym h))
    none false false v ha hb h = second.rest v hb ∙ first.rest v ha

-- a star that was left alone is still ready
pub still_ready : (S : List Point) (e : Edit) (p : ℕ → Bool) (old mid : List Seen) (v : ℕ) → HaveFollowed S e p old mid → p v ≡ false → IsReady S e old v → IsReady S e mid v
still_ready S e p old mid v moved away h =
    let same : star_at old v ≡ star_at mid v = sym (moved.rest v away) in
    record {
      within = subst (λ n. v < n) (sym moved.len) h.within;
      points = subst (λ (t : Seen). S ≡ t.points) same h.points;
      centre = subst (λ (t : Seen). t.centre ≡ v) same h.centre;
      touched = h.touched;
      before = subst (IsBefore S e) same h.before;
      room = λ put. subst (λ (t : Seen). 0 < t.spare) same (h.room put);
    }

-- no star has lost more than one place
pub room_lost : (S : List Point) (e : Edit) (p : ℕ → Bool) (old new : List Seen) → HaveFollowed S e p old new → LosesRoom 1 old new
room_lost S e p old new moved v = at (p v) refl
  where
    at : (a : Bool) → p v ≡ a → spare_at old v ≤ spare_at new v + 1
    at true h = (moved.done v h).room_left
    at false h = let same : spare_at new v ≡ spare_at old v = ap (λ (t : Seen). t.spare) (moved.rest v h) in omega arith

pub ends_followed : (S : List Point) (e : Edit) (f : Pair) (lo hi : ℕ) (old mid new : List Seen) → lo ≡ f.lo → hi ≡ f.hi
    → HaveFollowed S e (λ w. nat_eq lo w) old mid → HaveFollowed S e (λ w. nat_eq hi w) mid new → HaveFollowed S e (is_end f) old new
ends_followed S e f lo hi old mid new lower upper first second =
    let F : ℕ → Type 0 = λ x. HaveFollowed S e (λ w. nat_eq x w) old mid in
    let G : ℕ → Type 0 = λ x. HaveFollowed S e (λ w. nat_eq x w) mid new in
    followed_both S e (λ w. nat_eq f.lo w) (λ w. nat_eq f.hi w) old mid new (ends_apart f) (subst F lower first) (subst G upper second)

-- the star of the larger end is still ready
pub upper_ready : (S : List Point) (e : Edit) (f : Pair) (lo hi : ℕ) (old mid : List Seen) → lo ≡ f.lo → hi ≡ f.hi
    → HaveFollowed S e (λ w. nat_eq lo w) old mid → IsReady S e old f.hi → IsReady S e mid hi
upper_ready S e f lo hi old mid lower upper first ready =
    let R : ℕ → Type 0 = λ x. IsReady S e mid x in
    subst R (sym upper) (still_ready S e (λ w. nat_eq lo w) old mid f.hi first (false_from_ne_true (nat_eq lo f.hi) (λ is. (let same : lo ≡ f.hi = (Decides-eqb lo f.hi).0 is in let o = f.ordered in omega arith))) ready)
