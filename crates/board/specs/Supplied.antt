-- For private clauses.
-- What a board takes beside the core.
use Rattle.std.specs.Prelude.{◌≡◌, ℕ, ◌+◌, ◌≤◌, List, [], ◌∷◌, map, vec_capacity}
use Rattle.index_sets.specs.Indices.{numbers_from}
use Rattle.chronicle.specs.History.{ShareSeen, whole_share, caller_share}
use Rattle.journal_defs.specs.declared.commit.Commit.{Commit}
use Rattle.journal_defs.specs.Journal.{made}
use Rattle.seats.specs.Ground.{caller_of}
use Rattle.board.specs.declared.own.Own.{Own}
use Rattle.board.specs.declared.making.Supplies.{Supplies}
use Rattle.board.specs.declared.finishing.Room.{Room}
use Rattle.board.specs.Stamping.{AreStampsOf}

-- the caller's share, its number, the count of its commits, and room for hands
pub record IsOwn (J : List Commit) (share : ShareSeen Commit) (caller : ℕ) (o : Own) : Type 0 where
  pub share_is : o.share ≡ share
  pub caller_is : o.caller ≡ caller
  pub made_is : o.made ≡ made caller J
  pub empty : o.hands.items ≡ []
  pub room : 16 ≤ vec_capacity o.hands

-- those of callers from the number n on
abbrev pub AreOwn : List Commit → ℕ → List (ShareSeen Commit) → List Own → Type 0
AreOwn J n [] [] = Unit {0}
AreOwn J n [] (o ∷ os) = ⊥
AreOwn J n (s ∷ ss) [] = ⊥
AreOwn J n (s ∷ ss) (o ∷ os) = IsOwn J s n o × AreOwn J (n + 1) ss os

pub record IsSupplied (J : List Commit) (count callers : ℕ) (s : Supplies) : Type 0 where
  pub stamps : AreStampsOf J count s.stamps.items
  pub last : s.chronicle.last ≡ count
  pub callers_are : s.chronicle.callers ≡ callers
  pub first : s.chronicle.first ≡ J
  pub whole : s.whole ≡ whole_share s.chronicle
  pub owns : AreOwn J 1 (map (caller_share caller_of s.chronicle) (numbers_from 1 callers)) s.owns.items
  pub cells : (s.cells.items ≡ []) × (count + 1 ≤ vec_capacity s.cells)
  pub stars : (s.stars.items ≡ []) × (count ≤ vec_capacity s.stars)
  pub passes : (s.passes.items ≡ []) × (callers ≤ vec_capacity s.passes)

-- room to take so many passes apart and together again, and for so many stars
pub record IsRoom (given count : ℕ) (r : Room) : Type 0 where
  pub holders : (r.holders.items ≡ []) × (given ≤ vec_capacity r.holders)
  pub owns : (r.owns.items ≡ []) × (given ≤ vec_capacity r.owns)
  pub passes : (r.passes.items ≡ []) × (given ≤ vec_capacity r.passes)
  pub stars : (r.stars.items ≡ []) × (count ≤ vec_capacity r.stars)
