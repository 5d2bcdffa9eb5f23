-- For private clauses.
-- Steps of the check of a report.
use Rattle.std.specs.Prelude.{◌≡◌, List, length, Option, Some, None}
use Rattle.plane.specs.declared.segment.Pair.{Pair}
use Rattle.partition_defs.specs.Ascending.{IsAscending}
use Rattle.partition_defs.specs.Sets.{AreSame}
use Rattle.replay.specs.Replayed.{Replayed, IsCore}
use Rattle.journal_defs.specs.declared.edit.Edit.{Edit}
use Rattle.journal_defs.specs.declared.edit.Edit.TheVariants.{Drop, Keep, Flip}
use Rattle.report_io.specs.declared.report.Report.{Report}
use Rattle.report_defs.specs.Relation.{HasCertificate, HasValue, IsStartInOrder}

-- the core is of the same points and the same start
pub record IsOf (old new : Replayed) : Type 0 where
  pub points : new.points ≡ old.points
  pub start : new.start ≡ old.start

-- the list has the pairs, ascending
pub record IsSortedOf (pairs list : List Pair) : Type 0 where
  pub ascending : IsAscending list
  pub same : AreSame list pairs
  pub count : length list ≡ length pairs

-- the certificate is valid, and its value right
abbrev pub HasPrices : Report → Type 0
HasPrices r = HasCertificate r × HasValue r

-- the pair that an edit drops, or none
abbrev pub drop_of : Edit → Option Pair
drop_of (Drop e) = Some e
drop_of (Keep e) = None
drop_of (Flip e f) = None

-- the core is the replay of the report's journal from its start
pub record IsReplayOf (r : Report) (c : Replayed) : Type 0 where
  pub points : c.points ≡ r.instance.points
  pub order : IsStartInOrder r c.start
  pub journal : c.journal ≡ r.commits
  pub core : IsCore c
