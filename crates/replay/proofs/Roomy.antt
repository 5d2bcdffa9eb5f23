-- Room in the stars for flips.
use Rattle.std.proofs.Common.{◌≡◌, ℕ, ◌+◌, ◌<◌, List, [], ◌∷◌, ◌++◌, length, take, slice_index_or, sym, ◌∙◌, ap, subst, refl}
use Rattle.std.specs.List.{Any}
use Rattle.std.proofs.lemmas.List.{take_more}
use Rattle.std.proofs.lemmas.List.Elements.{All-cons, All-append, All-nil}
use Rattle.plane.specs.declared.coordinates.Point.{Point}
use Rattle.plane.specs.declared.segment.Pair.{Pair}
use Rattle.star.specs.Stars.{Seen}
use Rattle.star.specs.StarOf.{IsStarOf}
use Rattle.subdivision.specs.Layout.{Layout, star_at, AreOf, IsSubdivision}
use Rattle.partition_defs.specs.Sets.{AreSame}
use Rattle.journal_defs.specs.declared.edit.Edit.{Edit}
use Rattle.journal_defs.specs.Edits.{IsSound}
use Rattle.replay.specs.Applied.{IsWithin, AreWithin, IsFlip}
use Rattle.replay.specs.Machine.{layers}
use Rattle.replay.specs.Room.{HasRoomFor, HasRoomForAll, HaveMoreRoom, IsSameSubdivision, spare_at}
use Rattle.replay.specs.Edited.{IsSoundLayout}
use Rattle.replay.proofs.Changed.{layers_of}
use Rattle.replay.proofs.Edited.{room_less}

pub more_own : (m : ℕ) (a : List Seen) → HaveMoreRoom m a a
more_own m a = record { len = refl; same = λ v. refl; room = λ v h. h }

pub more_more : (m : ℕ) (a b c : List Seen) → HaveMoreRoom m a b → HaveMoreRoom m b c → HaveMoreRoom m a c
more_more m a b c first second = record {
  len = second.len ∙ first.len;
  same = λ v. second.same v ∙ ap (λ (s : Seen). record s { spare = spare_at c v }) (first.same v);
  room = λ v h. second.room v (first.room v h);
}

pub rooms_kept : (m : ℕ) (a b : List Seen) (es : List Edit) → HaveMoreRoom m a b → HasRoomForAll m a es → HasRoomForAll m b es
rooms_kept m a b es more all k d h = room_less m m a b (slice_index_or es k d) more.room (all k d h)

pub rooms_more : (m : ℕ) (a b : List Seen) (es : List Edit) (k : ℕ) (e : Edit) → HaveMoreRoom m a b → HasRoomForAll m a (take k es) → HasRoomFor m b e → k < length es → e ≡ slice_index_or es k e
    → HasRoomForAll m b (take (k + 1) es)
rooms_more m a b es k e more all here h is =
    let split : take (k + 1) es ≡ take k es ++ e ∷ [] = take_more es k e h ∙ ap (λ (x : Edit). take k es ++ x ∷ []) (sym is) in
    subst (HasRoomForAll m b) (sym split) (All-append (HasRoomFor m b) (take k es) (e ∷ []) (rooms_kept m a b (take k es) more all) (All-cons (HasRoomFor m b) e [] here (All-nil (HasRoomFor m b))))

pub item_within : (n m : ℕ) (es : List Edit) (k : ℕ) (e : Edit) → AreWithin n es → m ≡ n → k < length es → e ≡ slice_index_or es k e → IsWithin m e
item_within n m es k e all same h is =
    let P : Edit → Type 0 = λ x. IsWithin n x in
    let Q : ℕ → Type 0 = λ x. IsWithin x e in
    subst Q (sym same) (subst P (sym is) (all k e h))

pub some_flip : (es : List Edit) (k : ℕ) (e : Edit) → IsFlip e → k < length es → e ≡ slice_index_or es k e → Any IsFlip es
some_flip es k e flip h is = (k, e, h, sym is, flip)

-- with more room the stars are still those of the subdivision
roomy_star : (S : List Point) (T K : List Pair) (v n : ℕ) (s : Seen) → IsStarOf S T K v s → IsStarOf S T K v (record s { spare = n })
roomy_star S T K v n s so = record { star = so.star; centre = so.centre; points = so.points; neighbours = so.neighbours; marks = so.marks }

pub roomy_of : (S : List Point) (m : ℕ) (a : Layout) (new : List Seen) → IsSoundLayout S a → HaveMoreRoom m a.stars new → AreOf S a.all a.kept new
roomy_of S m a new so more =
    let agreed : AreOf S a.all a.kept a.stars = subst (λ P. AreOf P a.all a.kept a.stars) (sym so.of) so.subdivision.agreed in
    record {
      triangulation = agreed.triangulation;
      among = agreed.among;
      round = (more.len ∙ agreed.round.0, λ v h. subst (IsStarOf S a.all a.kept v) (sym (more.same v)) (roomy_star S a.all a.kept v (spare_at new v) (star_at a.stars v) (agreed.round.1 v h)));
    }

pub roomy_same : (S : List Point) (m : ℕ) (a new : Layout) (stars : List Seen) → IsSoundLayout S a → HaveMoreRoom m a.stars stars → new.points ≡ S → IsSubdivision new
    → ((T K : List Pair) → AreOf S T K stars → AreSame new.all T × AreSame new.kept K) → IsSameSubdivision a new
roomy_same S m a new stars so more points sub same = record {
  points = points ∙ so.of;
  subdivision = sub;
  state = layers_of S new (layers a) so.sound sub (same a.all a.kept (roomy_of S m a stars so more));
}

pub sound_same : (S : List Point) (a b : Layout) → IsSoundLayout S a → IsSameSubdivision a b → IsSoundLayout S b
sound_same S a b so same = record {
  of = so.of ∙ sym same.points;
  subdivision = same.subdivision;
  sound = subst (IsSound S) (sym same.state) so.sound;
}
