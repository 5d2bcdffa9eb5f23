-- The parts of a report by the ends of their pairs are within the limits where the report is.
use Rattle.std.proofs.Common.{◌≡◌, ℕ, zero, suc, ◌^◌, ◌<◌, ◌≤◌, List, [], ◌∷◌, length, map, get_or, All, arith}
use Rattle.std.proofs.lemmas.List.{length-map}
use Rattle.plane.specs.declared.coordinates.Point.{Point}
use Rattle.plane.specs.declared.segment.Pair.{Pair}
use Rattle.journal_defs.specs.declared.edit.Edit.{Edit}
use Rattle.journal_defs.specs.declared.edit.Edit.TheVariants.{Drop, Keep, Flip}
use Rattle.journal_defs.specs.declared.commit.Commit.{Commit}
use Rattle.price_defs.specs.declared.row.Row.{Row}
use Rattle.price_defs.specs.declared.row.Row.TheVariants.{Half, Three, Cross, Cap}
use Rattle.price_defs.specs.Rows.{weight}
use Rattle.price_defs.specs.Limits.{IsIndexed}
use Rattle.instance_io.specs.Refusal.{ends}
use Rattle.text_defs.proofs.laws.IsPlain.{Each, IsEdge}
use Rattle.text_defs.proofs.laws.Lists.{each}
use Rattle.report_io.specs.declared.report.Report.{Report}
use Rattle.report_io.specs.Report.{edit_item, row_item, commit_item, later_parts}
use Rattle.report_io.specs.Limits.{IsEditBelow, IsCommitWithin, AreLaterWithin}
use Rattle.report_io.proofs.laws.PartLimits.{IsEditItem, IsRowItem, IsCommitItem, AreLaterParts}

-- what holds of each item holds of each that it is told as, and the other way round
pub told_each : {X A : Type 0} (P : X → Type 0) (Q : A → Type 0) (tell : X → A) (xs : List X) → ((x : X) → P x → Q (tell x)) → All P xs → Each Q (map tell xs)
told_each P Q tell [] f h = tt
told_each P Q tell (x ∷ xs) f h = (f x (h 0 x (omega arith)), told_each P Q tell xs f (λ k d l. h (suc k) d (omega arith)))

pub each_told : {X A : Type 0} (P : X → Type 0) (Q : A → Type 0) (tell : X → A) (xs : List X) → ((x : X) → Q (tell x) → P x) → Each Q (map tell xs) → All P xs
each_told P Q tell [] f h k d l = absurd (omega (arith, l))
each_told P Q tell (x ∷ xs) f h zero d l = f x h.0
each_told P Q tell (x ∷ xs) f h (suc k) d l = each_told P Q tell xs f h.1 k d (omega (arith, l))

pub pairs_told : (n : ℕ) (pairs : List Pair) → All (λ e. e.hi < n) pairs → Each (IsEdge n) (map ends pairs)
pairs_told n pairs h = told_each (λ (e : Pair). e.hi < n) (IsEdge n) ends pairs (λ e l. (e.ordered, l)) h

edit_told : (n : ℕ) (e : Edit) → IsEditBelow n e → IsEditItem n (edit_item e)
edit_told n (Drop e) h = (e.ordered, h)
edit_told n (Keep e) h = (e.ordered, h)
edit_told n (Flip e f) h = ((e.ordered, h.0), (f.ordered, h.1))

row_told : (S : List Point) (r : Row) → IsIndexed S r × (weight r ≤ 1000000000000) → IsRowItem (length S) (row_item r)
row_told S (Half p q w) h = (h.0.0, h.0.1, h.1)
row_told S (Three p w) h = (h.0, h.1)
row_told S (Cross e f w) h = ((e.ordered, h.0.0), (f.ordered, h.0.1), h.1)
row_told S (Cap e w) h = ((e.ordered, h.0), h.1)

commit_told : (n : ℕ) (c : Commit) → IsCommitWithin n c → IsCommitItem n (commit_item c)
commit_told n c h =
    let count = length-map c.edits edit_item in
    let size = h.size in
    record {
      caller = h.caller;
      first = h.first;
      seq = h.seq;
      some = omega (arith, count, size.0);
      few = omega (arith, count, size.1);
      edits = told_each (IsEditBelow n) (IsEditItem n) edit_item c.edits (edit_told n) h.edits;
    }

both : {X : Type 0} (P Q : X → Type 0) (xs : List X) → All P xs → All Q xs → All (λ x. P x × Q x) xs
both P Q xs h k i d l = (h i d l, k i d l)

pub rows_told : (S : List Point) (rows : List Row) → All (IsIndexed S) rows → All (λ x. weight x ≤ 1000000000000) rows → Each (IsRowItem (length S)) (map row_item rows)
rows_told S rows indexed light =
    told_each (λ (x : Row). IsIndexed S x × (weight x ≤ 1000000000000)) (IsRowItem (length S)) row_item rows (row_told S) (both (IsIndexed S) (λ (x : Row). weight x ≤ 1000000000000) rows indexed light)

pub commits_told : (n : ℕ) (J : List Commit) → All (IsCommitWithin n) J → Each (IsCommitItem n) (map commit_item J)
commits_told n J h = told_each (IsCommitWithin n) (IsCommitItem n) commit_item J (commit_told n) h

pub later_told : (r : Report) → AreLaterWithin r → AreLaterParts (length r.instance.points) (later_parts r)
later_told r h =
    let S = r.instance.points in
    let n = length S in
    record {
      solution = record { few = omega (arith, length-map r.solution ends, h.few); pairs = pairs_told n r.solution h.solution };
      certificate = record {
        q = h.certificate.q;
        rows = rows_told S r.certificate.rows h.certificate.indexed h.certificate.light;
        value = h.value;
      };
      journal = record {
        few = omega (arith, length-map r.start ends, h.journal.few);
        start = pairs_told n r.start h.journal.pairs;
        short = omega (arith, length-map r.commits commit_item, h.journal.count);
        commits = commits_told n r.commits h.journal.commits;
      };
      summary = h.summary;
    }

-- ---- and the other way round

edit_below : (n : ℕ) (e : Edit) → IsEditItem n (edit_item e) → IsEditBelow n e
edit_below n (Drop e) h = h.1
edit_below n (Keep e) h = h.1
edit_below n (Flip e f) h = (h.0.1, h.1.1)

row_indexed : (S : List Point) (r : Row) → IsRowItem (length S) (row_item r) → IsIndexed S r
row_indexed S (Half p q w) h = (h.0, h.1)
row_indexed S (Three p w) h = h.0
row_indexed S (Cross e f w) h = (h.0.1, h.1.1)
row_indexed S (Cap e w) h = h.0.1

row_light : (n : ℕ) (r : Row) → IsRowItem n (row_item r) → weight r ≤ 1000000000000
row_light n (Half p q w) h = h.2
row_light n (Three p w) h = h.1
row_light n (Cross e f w) h = h.2
row_light n (Cap e w) h = h.1

commit_within : (n : ℕ) (c : Commit) → IsCommitItem n (commit_item c) → IsCommitWithin n c
commit_within n c h =
    let count = length-map c.edits edit_item in
    let some = h.some in
    let few = h.few in
    record {
      caller = h.caller;
      first = h.first;
      seq = h.seq;
      size = (omega (arith, count, some), omega (arith, count, few));
      edits = each_told (IsEditBelow n) (IsEditItem n) edit_item c.edits (edit_below n) h.edits;
    }

pub told_later : (r : Report) → AreLaterParts (length r.instance.points) (later_parts r) → AreLaterWithin r
told_later r h =
    let S = r.instance.points in
    let n = length S in
    let solution = h.solution.few in
    let start = h.journal.few in
    let commits = h.journal.short in
    record {
      few = omega (arith, length-map r.solution ends, solution);
      solution = each_told (λ (e : Pair). e.hi < n) (IsEdge n) ends r.solution (λ e k. k.1) h.solution.pairs;
      certificate = record {
        q = h.certificate.q;
        indexed = each_told (IsIndexed S) (IsRowItem n) row_item r.certificate.rows (row_indexed S) h.certificate.rows;
        light = each_told (λ (x : Row). weight x ≤ 1000000000000) (IsRowItem n) row_item r.certificate.rows (row_light n) h.certificate.rows;
      };
      value = h.certificate.value;
      journal = record {
        few = omega (arith, length-map r.start ends, start);
        pairs = each_told (λ (e : Pair). e.hi < n) (IsEdge n) ends r.start (λ e k. k.1) h.journal.start;
        count = omega (arith, length-map r.commits commit_item, commits);
        commits = each_told (IsCommitWithin n) (IsCommitItem n) commit_item r.commits (commit_within n) h.journal.commits;
      };
      summary = h.summary;
    }
