-- The kept answers stay right where a mark goes.
use Rattle.std.proofs.Common.{◌≡◌, ◌≢◌, ℕ, ◌<◌, Bool, false, List, length, set, take, ◌++◌, inl, inr, ◌↔◌, IsTrue, sym, ◌∙◌, ap, subst, refl}
use Rattle.std.proofs.Math.Seq.{take-append_seam}
use Rattle.plane.specs.declared.coordinates.Point.{Point}
use Rattle.star.specs.Stars.{entry, IsOrderly}
use Rattle.star.specs.declared.links.Link.{Link}
use Rattle.star.specs.Gaps.{IsKept, IsKeptAfter, IsKeptBefore, IsWide}
use Rattle.star.specs.Links.{link, IsRightLink, HasRightLinks, HasLink, IsTakenOut, MissesWithoutPlace}
use Rattle.star.proofs.laws.Marks.{one_position}
use Rattle.star.proofs.Listed.{orderly_marked}
use Rattle.star.proofs.Sooner.{sooner_differ}
use Rattle.number_laws.proofs.Naturals.{equal_or_not}
use Rattle.star.proofs.Without.{IsWithout, set_without}
use Rattle.star.proofs.KeptOrder.{after_less, before_less, after_over, before_over, after_of_before, before_of_after, same_before, same_after}
use Rattle.star.proofs.Answers.{misses_new}

pub spliced : (n : ℕ) (xs ys : List Link) → length xs ≡ n → take n (xs ++ ys) ≡ xs
spliced n xs ys e = subst (λ m. take m (xs ++ ys) ≡ xs) e (take-append_seam xs ys)

pub right_of : (S : List Point) (c : ℕ) (list : List (ℕ × Bool)) (links : List Link) (m x y p q : ℕ) → HasLink S c links m p q → IsKeptBefore list m x → IsKeptAfter list m y → (entry list x).0 ≡ p → (entry list y).0 ≡ q → IsRightLink S c list m (link links m)
right_of S c list links m x y p q has before after ep eq = record {
  first = x;
  second = y;
  before = before;
  after = after;
  before_name = ep ∙ sym has.is_before;
  after_name = eq ∙ sym has.is_after;
  opens = subst (λ z. IsTrue (link links m).opens ↔ IsWide S c z (link links m).after) (sym has.is_before) (subst (λ z. IsTrue (link links m).opens ↔ IsWide S c p z) (sym has.is_after) has.opens);
}

-- a and b are the positions that the link of k names
pub dropped : (S : List Point) (c : ℕ) (list new : List (ℕ × Bool)) (links links' : List Link) (w w' : Bool) (k a b : ℕ) → HasRightLinks S c list links w → IsWithout list new k → (IsTrue w' ↔ MissesWithoutPlace S c list k)
    → IsOrderly S c new → IsKeptBefore list k a → IsKeptAfter list k b → a ≢ k → IsTakenOut S c links links' a b (entry list a).0 (entry list b).0 → HasRightLinks S c new links' w'
dropped S c list new links links' w w' k a b ar wo answer so before after others closed = record {
  accepted = ar.accepted;
  order = so;
  len = closed.len ∙ ar.len ∙ sym wo.len;
  right = right_at;
  wide = (λ t. (misses_new S c list new k wo).1 (answer.0 t), λ h. answer.1 ((misses_new S c list new k wo).0 h));
}
  where
    bk : b ≢ k
    bk e = (sooner_differ k b a (after.first a before.kept others (λ h. others (h ∙ e)))).0 (sym e)

    to_b : IsKeptAfter new a b
    to_b = after_over list new k a b wo (after_of_before list k a wo.kept before) after bk

    to_a : IsKeptBefore new b a
    to_a = before_over list new k b a wo (before_of_after list k b wo.kept after) before others

    one : a ≡ b → IsRightLink S c new a (link links' a)
    one e = right_of S c new links' a a a (entry list a).0 (entry list a).0 (closed.alone e) (subst (λ z. IsKeptBefore new z a) (sym e) to_a) (subst (λ z. IsKeptAfter new a z) (sym e) to_b) (wo.names a) (wo.names a)

    at_a : a ≢ b → IsRightLink S c new a (link links' a)
    at_a ne =
        let r = ar.right a before.kept in
        right_of S c new links' a r.first b (link links a).before (entry list b).0 (closed.first ne)
        (before_less list new k a r.first wo r.before (λ e. ne (same_after list k a b before.kept others (subst (λ z. IsKeptBefore list a z) e r.before) after)))
        to_b (wo.names r.first ∙ r.before_name) (wo.names b)

    at_b : a ≢ b → IsRightLink S c new b (link links' b)
    at_b ne =
        let r = ar.right b after.kept in
        right_of S c new links' b a r.second (entry list a).0 (link links b).after (closed.second ne) to_a
        (after_less list new k b r.second wo r.after (λ e. ne (sym (same_before list k b a after.kept bk (subst (λ z. IsKeptAfter list b z) e r.after) before))))
        (wo.names a) (wo.names r.second ∙ r.after_name)

    elsewhere : (m : ℕ) → IsKept new m → m ≢ a → m ≢ b → IsRightLink S c new m (link links' m)
    elsewhere m km ma mb =
        let (mk, old) = wo.rest m km in
        let r = ar.right m old in
        subst (λ l. IsRightLink S c new m l) (sym (closed.others m ma mb)) (record {
          first = r.first;
          second = r.second;
          before = before_less list new k m r.first wo r.before (λ e. mb (same_after list k m b old mk (subst (λ z. IsKeptBefore list m z) e r.before) after));
          after = after_less list new k m r.second wo r.after (λ e. ma (same_before list k m a old mk (subst (λ z. IsKeptAfter list m z) e r.after) before));
          before_name = wo.names r.first ∙ r.before_name;
          after_name = wo.names r.second ∙ r.after_name;
          opens = r.opens;
        })

    right_at : (m : ℕ) → IsKept new m → IsRightLink S c new m (link links' m)
    right_at m km = elim (equal_or_not a b) [
      | inl e ↦ elim (equal_or_not m a) [
        | inl h ↦ subst (λ z. IsRightLink S c new z (link links' z)) (sym h) (one e)
        | inr ma ↦ elsewhere m km ma (λ h. ma (h ∙ sym e))
      ]
      | inr ne ↦ elim (equal_or_not m a) [
        | inl h ↦ subst (λ z. IsRightLink S c new z (link links' z)) (sym h) (at_a ne)
        | inr ma ↦ elim (equal_or_not m b) [
          | inl h ↦ subst (λ z. IsRightLink S c new z (link links' z)) (sym h) (at_b ne)
          | inr mb ↦ elsewhere m km ma mb
        ]
      ]
    ]

pub dropped_last : (S : List Point) (c : ℕ) (list new : List (ℕ × Bool)) (links : List Link) (w w' : Bool) (k : ℕ) → HasRightLinks S c list links w → IsWithout list new k → (IsTrue w' ↔ MissesWithoutPlace S c list k)
    → IsOrderly S c new → IsKeptBefore list k k → HasRightLinks S c new links w'
dropped_last S c list new links w w' k ar wo answer so before = record {
  accepted = ar.accepted;
  order = so;
  len = ar.len ∙ sym wo.len;
  right = λ m km. absurd (none m km);
  wide = (λ t. (misses_new S c list new k wo).1 (answer.0 t), λ h. answer.1 ((misses_new S c list new k wo).0 h));
}
  where
    none : (m : ℕ) → IsKept new m → ⊥
    none m km = let (mk, old) = wo.rest m km in (sooner_differ k k m (before.last m old mk mk)).0 refl

-- the ends that a right link names
pub link_in : (S : List Point) (c : ℕ) (list : List (ℕ × Bool)) (links : List Link) (w : Bool) (k : ℕ) → HasRightLinks S c list links w → IsKept list k → ((link links k).before < length S) × ((link links k).after < length S) × ((link links k).before ≢ c)
link_in S c list links w k ar kk =
    let r = ar.right k kk in (
      subst (λ x. x < length S) r.before_name (ar.order.within r.first r.before.kept.0),
      subst (λ x. x < length S) r.after_name (ar.order.within r.second r.after.kept.0),
      subst (λ x. x ≢ c) r.before_name (ar.order.apart r.first r.before.kept.0),
    )

pub seat_before : (S : List Point) (c : ℕ) (list : List (ℕ × Bool)) (links : List Link) (w : Bool) (k a : ℕ) → HasRightLinks S c list links w → IsKept list k → a < length list → (entry list a).0 ≡ (link links k).before → IsKeptBefore list k a
seat_before S c list links w k a ar kk ha at = let r = ar.right k kk in subst (λ x. IsKeptBefore list k x) (sym (one_position S c list a r.first ar.order ha r.before.kept.0 (at ∙ sym r.before_name))) r.before

pub seat_after : (S : List Point) (c : ℕ) (list : List (ℕ × Bool)) (links : List Link) (w : Bool) (k b : ℕ) → HasRightLinks S c list links w → IsKept list k → b < length list → (entry list b).0 ≡ (link links k).after → IsKeptAfter list k b
seat_after S c list links w k b ar kk hb at = let r = ar.right k kk in subst (λ x. IsKeptAfter list k x) (sym (one_position S c list b r.second ar.order hb r.after.kept.0 (at ∙ sym r.after_name))) r.after

-- the links without k's, where another is kept, are those of the list without its mark
pub unlinked : (S : List Point) (c : ℕ) (list : List (ℕ × Bool)) (links ns : List Link) (w w' : Bool) (k a b : ℕ) (gone : Link) → HasRightLinks S c list links w → IsKept list k → gone ≡ link links k → (IsTrue w' ↔ MissesWithoutPlace S c list k)
    → gone.before ≢ (entry list k).0 → IsKeptBefore list k a → IsKeptAfter list k b → (entry list a).0 ≡ gone.before → (entry list b).0 ≡ gone.after → IsTakenOut S c links ns a b gone.before gone.after
    → HasRightLinks S c (set list k ((entry list k).0, false)) ns w'
unlinked S c list links ns w w' k a b gone ar kk eg answer others before after at_a at_b taken =
    dropped S c list (set list k ((entry list k).0, false)) links ns w w' k a b ar (set_without list k (entry list k).0 kk refl) answer (orderly_marked S c list k (entry list k).0 false ar.order kk.0 refl) before after
    (λ e. others (sym at_a ∙ ap (λ i. (entry list i).0) e))
    (subst (λ x. IsTakenOut S c links ns a b x (entry list b).0) (sym at_a) (subst (λ x. IsTakenOut S c links ns a b gone.before x) (sym at_b) taken))

pub unlinked_last : (S : List Point) (c : ℕ) (list : List (ℕ × Bool)) (links : List Link) (w w' : Bool) (k : ℕ) (gone : Link) → HasRightLinks S c list links w → IsKept list k → gone ≡ link links k
    → (IsTrue w' ↔ MissesWithoutPlace S c list k) → gone.before ≡ (entry list k).0 → HasRightLinks S c (set list k ((entry list k).0, false)) links w'
unlinked_last S c list links w w' k gone ar kk eg answer alone =
    dropped_last S c list (set list k ((entry list k).0, false)) links w w' k ar (set_without list k (entry list k).0 kk refl) answer (orderly_marked S c list k (entry list k).0 false ar.order kk.0 refl)
    (seat_before S c list links w k k ar kk kk.0 (sym alone ∙ ap (λ (l : Link). l.before) eg))
