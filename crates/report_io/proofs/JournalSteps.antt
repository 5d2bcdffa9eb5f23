-- The reading of a journal in steps.
use Rattle.std.proofs.Common.{◌≡◌, ◌≢◌, ℕ, ◌<◌, ◌≤◌, List, [], ◌∷◌, map, length, nat_le, Some, None, Result, Ok, Err, true, false, codes, refl, sym, ap, ◌∙◌, arith}
use Rattle.std.proofs.lemmas.List.{length-map}
use Rattle.serde_json.specs.Data.{Data}
use Rattle.serde_json.specs.Find.{as_array}
use Rattle.serde_json.specs.View.{view, items_view}
use Rattle.serde_json.specs.declared.value.Value.{Value}
use Rattle.text_defs.specs.Steps.{◌>>=◌, or_fault}
use Rattle.text_defs.specs.Fields.{list_of, array_at}
use Rattle.text_defs.specs.Items.{each_or_fault, unless_many}
use Rattle.text_defs.proofs.laws.Lists.{list_of-items_of}
use Rattle.report_io.specs.declared.faults.JournalLine.TheVariants.{NoStart, TooManyStart, BadStart, NoCommits, TooManyCommits, BadCommit}
use Rattle.report_io.specs.declared.faults.ReportFault.{ReportFault}
use Rattle.report_io.specs.declared.faults.ReportFault.TheVariants as at
use Rattle.report_io.specs.Parts.{CommitItem, JournalParts}
use Rattle.report_io.specs.Reading.{journal_in, start_in, start_of, commit_of, start_pairs, commit_items}

-- with few items the limit doesn't matter, and with many it is the fault
pub few_items : {A F : Type 0} (most : ℕ) (fault : ℕ → F) (vs : List Value) (r : Result A F) → length vs ≤ most → unless_many most fault (map view vs) r ≡ r
few_items most fault vs r h =
    let count = length-map vs view in
    let few : nat_le (length (map view vs)) most ≡ true = grind (arith, count) in
    rw few refl

pub many_items : {A F : Type 0} (most : ℕ) (fault : ℕ → F) (vs : List Value) (r : Result A F) → most < length vs → unless_many most fault (map view vs) r ≡ Err (fault (length vs))
many_items most fault vs r h =
    let count = length-map vs view in
    let many : nat_le (length (map view vs)) most ≡ false = grind (arith, count) in
    rw many (ap (λ c. Err (fault c)) count)

abbrev pub after_start : ℕ → Data → List (ℕ × ℕ) → Result JournalParts ReportFault
after_start n d start =
    or_fault (at.Journal NoCommits) (array_at (codes "commits") d)
    >>= (λ items. commit_items n (list_of items) >>= (λ commits. Ok (record { start = start; commits = commits })))

pub no_start : (n : ℕ) (d : Data) → None ≡ array_at (codes "start") d → journal_in n d ≡ Err (at.Journal NoStart)
unfolding journal_in
no_start n d h = rw (← h) refl

pub to_start : (n : ℕ) (d : Data) (vs : List Value) → Some (items_view vs) ≡ array_at (codes "start") d → journal_in n d ≡ (start_pairs n (map view vs) >>= after_start n d)
unfolding journal_in
to_start n d vs h = rw (← h, list_of-items_of (map view vs)) refl

pub no_commits : (n : ℕ) (d : Data) (start : List (ℕ × ℕ)) → None ≡ array_at (codes "commits") d → after_start n d start ≡ Err (at.Journal NoCommits)
no_commits n d start h = rw (← h) refl

pub to_commits : (n : ℕ) (d : Data) (start : List (ℕ × ℕ)) (vs : List Value) → Some (items_view vs) ≡ array_at (codes "commits") d
    → after_start n d start ≡ (commit_items n (map view vs) >>= (λ (commits : List CommitItem). Ok (record { start = start; commits = commits })))
to_commits n d start vs h = rw (← h, list_of-items_of (map view vs)) refl

pub start_pairs-few : (n : ℕ) (vs : List Value) → length vs ≤ 20000 → start_pairs n (map view vs) ≡ each_or_fault (start_of n) (λ k. at.Journal (BadStart k)) (map view vs)
start_pairs-few n vs h = few_items 20000 (λ c. at.Journal (TooManyStart c)) vs (each_or_fault (start_of n) (λ k. at.Journal (BadStart k)) (map view vs)) h

pub start_pairs-many : (n : ℕ) (vs : List Value) → 20000 < length vs → start_pairs n (map view vs) ≡ Err (at.Journal (TooManyStart (length vs)))
start_pairs-many n vs h = many_items 20000 (λ c. at.Journal (TooManyStart c)) vs (each_or_fault (start_of n) (λ k. at.Journal (BadStart k)) (map view vs)) h

pub commit_items-few : (n : ℕ) (vs : List Value) → length vs ≤ 200000 → commit_items n (map view vs) ≡ each_or_fault (commit_of n) (λ k. at.Journal (BadCommit k)) (map view vs)
commit_items-few n vs h = few_items 200000 (λ c. at.Journal (TooManyCommits c)) vs (each_or_fault (commit_of n) (λ k. at.Journal (BadCommit k)) (map view vs)) h

pub commit_items-many : (n : ℕ) (vs : List Value) → 200000 < length vs → commit_items n (map view vs) ≡ Err (at.Journal (TooManyCommits (length vs)))
commit_items-many n vs h = many_items 200000 (λ c. at.Journal (TooManyCommits c)) vs (each_or_fault (commit_of n) (λ k. at.Journal (BadCommit k)) (map view vs)) h

start_in-other : (n : ℕ) (ds : List Data) → length ds ≢ 2 → start_in n ds ≡ None
start_in-other n [] h = refl
start_in-other n (a ∷ []) h = refl
start_in-other n (a ∷ b ∷ []) h = absurd (h refl)
start_in-other n (a ∷ b ∷ c ∷ more) h = refl

pub start_of-other : (n : ℕ) (d : Data) (vs : List Value) → Some (items_view vs) ≡ as_array d → length vs ≢ 2 → None ≡ start_of n d
start_of-other n d vs h l = rw (← h, list_of-items_of (map view vs)) (sym (start_in-other n (map view vs) (λ e. l (sym (length-map vs view) ∙ e))))
