-- The lines that are written for the parts of a report. (This project's own.)
use Rattle.std.specs.Prelude.{ℕ, ◌==◌, List, [], ◌∷◌, map, Bool, true, false, codes}
use Rattle.serde_json.specs.Data.{Data, string, array, object, boolean, Members, no_members, member}
use Rattle.serde_json.specs.View.{items_of}
use Rattle.text_defs.specs.Texts.{index_data}
use Rattle.report_io.specs.declared.summary.Summary.{Summary}
use Rattle.report_io.specs.Parts.{EditItem, dropped, kept, flipped, RowItem, half, three, cross, cap, CommitItem, CertificateParts, JournalParts}

abbrev pub list_data : List Data → Data
list_data ds = array (items_of ds)

-- an array of a tag and numbers
abbrev pub tagged_data : List ℕ → List ℕ → Data
tagged_data tag numbers = list_data (string tag ∷ map index_data numbers)

abbrev pub edit_data : EditItem → Data
edit_data (dropped e) = tagged_data (codes "d") (e.0 ∷ e.1 ∷ [])
edit_data (kept e) = tagged_data (codes "k") (e.0 ∷ e.1 ∷ [])
edit_data (flipped e f) = tagged_data (codes "f") (e.0 ∷ e.1 ∷ f.0 ∷ f.1 ∷ [])

abbrev pub row_data : RowItem → Data
row_data (half p q w) = tagged_data (codes "h") (p ∷ q ∷ w ∷ [])
row_data (three p w) = tagged_data (codes "t") (p ∷ w ∷ [])
row_data (cross e f w) = tagged_data (codes "x") (e.0 ∷ e.1 ∷ f.0 ∷ f.1 ∷ w ∷ [])
row_data (cap e w) = tagged_data (codes "c") (e.0 ∷ e.1 ∷ w ∷ [])

abbrev pub certificate_data : CertificateParts → Data
certificate_data c =
    object (member (codes "q") (index_data c.q) (member (codes "rows") (list_data (map row_data c.rows)) (member (codes "value") (index_data c.value) no_members)))

abbrev pub commit_data : CommitItem → Data
commit_data c = list_data (index_data c.caller ∷ index_data c.seq ∷ list_data (map edit_data c.edits) ∷ [])

abbrev pub start_data : ℕ × ℕ → Data
start_data e = list_data (index_data e.0 ∷ index_data e.1 ∷ [])

abbrev pub journal_data : JournalParts → Data
journal_data j = object (member (codes "commits") (list_data (map commit_data j.commits)) (member (codes "start") (list_data (map start_data j.start)) no_members))

-- the fields from the edges on
abbrev pub later_fields : Summary → Members
later_fields s =
    member (codes "edges") (index_data s.edges) (member (codes "gap") (index_data s.gap) (member (codes "optimal") (boolean s.optimal) (member (codes "version") (index_data s.version) no_members)))

-- in version 2 the cost stands before them
abbrev pub cost_fields : Bool → Summary → Members
cost_fields true s = member (codes "cost") (index_data s.cost) (later_fields s)
cost_fields false s = later_fields s

abbrev pub summary_data : Summary → Data
summary_data s =
    object (member (codes "bound") (index_data s.bound) (member (codes "commits") (list_data (map index_data s.commits)) (cost_fields (s.version == 2) s)))
