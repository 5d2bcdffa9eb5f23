-- A plan of an earlier moment: its stamps are never ahead, and refreshed once it is handed in as if stamps didn't count.
use Rattle.std.proofs.Common.{◌≡◌, ℕ, ◌+◌, ◌≤◌, List, [], ◌∷◌, ◌++◌, length, map, ◌⊎◌, inl, inr, arith, sym, subst, refl}
use Rattle.std.proofs.lemmas.Bool.{cases_lt, cond_both}
use Rattle.plane.specs.declared.coordinates.Point.{Point}
use Rattle.plane.specs.declared.segment.Pair.{Pair}
use Rattle.journal_defs.specs.declared.edit.Claim.{Claim}
use Rattle.journal_defs.specs.declared.commit.Commit.{Commit}
use Rattle.journal_defs.specs.Journal.{commit_touches, last_from, last}
use Rattle.journal_defs.proofs.laws.Journal.{last_append, last_most}
use Rattle.edit.specs.Plans.{Planned}
use Rattle.round_defs.specs.Rounds.{IsHanded}
use Rattle.round_defs.specs.Handed.{AreFresh, IsStale, refreshed, IsTried, IsTriedTwice}

-- the last touch never goes back
from_grows : (n best : ℕ) (L : List Commit) (v : ℕ) → best ≤ n → best ≤ last_from n best L v
from_grows n best [] v h = omega arith
from_grows n best (c ∷ L) v h =
    cond_both (commit_touches c v) (n + 1) best (λ m. best ≤ last_from (n + 1) m L v)
    (λ t. (let r = from_grows (n + 1) (n + 1) L v (omega arith) in omega (arith, r, h)))
    (λ f. from_grows (n + 1) best L v (omega (arith, h)))

pub last_grows : (J L : List Commit) (v : ℕ) → last J v ≤ last (J ++ L) v
last_grows J L v = let r = from_grows (length J) (last J v) L v (last_most J v) in subst (λ (m : ℕ). last J v ≤ m) (sym (last_append J L v)) r

-- no stamp is ahead
abbrev pub AreNotAhead : List Commit → List Claim → Type 0
AreNotAhead J [] = Unit {0}
AreNotAhead J (c ∷ cs) = (c.stamp ≤ last J c.vertex) × AreNotAhead J cs

-- stamps that were fresh stay so or grow old
pub fresh_not_ahead : (J L : List Commit) (cs : List Claim) → AreFresh J cs → AreNotAhead (J ++ L) cs
fresh_not_ahead J L [] h = tt
fresh_not_ahead J L (c ∷ cs) h = let e = h.0 in let g = last_grows J L c.vertex in (omega (arith, e, g), fresh_not_ahead J L cs h.1)

-- claims that aren't ahead are stale or fresh
pub stale_or_fresh : (J : List Commit) (cs : List Claim) → AreNotAhead J cs → IsStale J cs ⊎ AreFresh J cs
stale_or_fresh J [] h = inr tt
stale_or_fresh J (c ∷ cs) h =
    let r = stale_or_fresh J cs h.1 in
    elim (cases_lt c.stamp (last J c.vertex)) [
      | inl old ↦ inl (inl old)
      | inr not ↦ (let g = h.0 in let e : c.stamp ≡ last J c.vertex = omega (arith, not, g) in
          elim r [ inl s ↦ inl (inr (e, s)) | inr a ↦ inr (e, a) ])
    ]

-- and never both
pub not_both : (J : List Commit) (cs : List Claim) → IsStale J cs → AreFresh J cs → ⊥
not_both J [] s r = s
not_both J (c ∷ cs) (inl old) r = let e = r.0 in omega (arith, old, e)
not_both J (c ∷ cs) (inr s) r = not_both J cs s.1 r.1

pub refreshed_fresh : (J : List Commit) (cs : List Claim) → AreFresh J (map (λ c. record { vertex = c.vertex; stamp = last J c.vertex }) cs)
refreshed_fresh J [] = tt
refreshed_fresh J (c ∷ cs) = (refl, refreshed_fresh J cs)

tried_handed : (S : List Point) (start : List Pair) (J J' : List Commit) (p : Planned) → AreFresh J p.claims → IsTried S start J p J' → IsHanded S start J p.edits J'
tried_handed S start J J' p fresh (inl x) = inl (x.0.1, x.1)
tried_handed S start J J' p fresh (inr x) = inr (λ legal. x.0 (fresh, legal), x.1)

-- so a plan made of looks of an earlier journal is handed in as if its stamps didn't count
pub twice_handed : (S : List Point) (start : List Pair) (J J' : List Commit) (p : Planned) → AreNotAhead J p.claims → IsTriedTwice S start J p J' → IsHanded S start J p.edits J'
twice_handed S start J J' p ahead (inl x) =
    elim (stale_or_fresh J p.claims ahead) [
      | inl stale ↦ absurd (x.0 stale)
      | inr fresh ↦ tried_handed S start J J' p fresh x.1
    ]
twice_handed S start J J' p ahead (inr x) = tried_handed S start J J' (refreshed J p) (refreshed_fresh J p.claims) x.1
