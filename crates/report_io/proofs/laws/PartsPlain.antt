-- The values that are written for the parts of a report are plain and shallow.
use Rattle.std.proofs.Common.{◌≡◌, ℕ, ◌^◌, ◌<◌, ◌≤◌, max, List, [], ◌∷◌, length, map, Bool, true, false, ◌==◌, codes, inl, inr, refl, arith}
use Rattle.json.proofs.Printed.Utf8.{IsUtf8-are_ascii}
use Rattle.serde_json.specs.Data.{Data, Items, Members, no_members, member, depth, items_depth, members_depth}
use Rattle.serde_json.specs.View.{items_of}
use Rattle.text_defs.specs.Texts.{index_data}
use Rattle.text_defs.proofs.laws.IsPlain.{IsPlain, ItemsArePlain, MembersArePlain, Each, IsEdge, put_all}
use Rattle.text_defs.proofs.laws.Lists.{each}
use Rattle.report_io.specs.declared.summary.Summary.{Summary}
use Rattle.report_io.specs.Parts.{EditItem, dropped, kept, flipped, RowItem, half, three, cross, cap, CommitItem, CertificateParts, JournalParts}
use Rattle.report_io.specs.Texts.{list_data, edit_data, row_data, certificate_data, commit_data, start_data, journal_data, later_fields, cost_fields, summary_data}
use Rattle.report_io.specs.Limits.{IsSummaryWithin}
use Rattle.report_io.proofs.laws.PartLimits.{IsEditItem, IsRowItem, IsCommitItem, AreCertificateParts}

plain_each : {A : Type 0} (P : A → Type 0) (tell : A → Data) (xs : List A) → ((x : A) → P x → IsPlain (tell x)) → Each P xs → ItemsArePlain (items_of (map tell xs))
plain_each P tell [] f h = tt
plain_each P tell (x ∷ xs) f h = (f x h.0, plain_each P tell xs f h.1)

shallow_each : {A : Type 0} (m : ℕ) (tell : A → Data) (xs : List A) → ((x : A) → depth (tell x) ≤ m) → items_depth (items_of (map tell xs)) ≤ m
shallow_each m tell [] f = omega arith
shallow_each m tell (x ∷ xs) f = let a = f x in let b = shallow_each m tell xs f in grind (arith, a, b)

-- the ends of a pair of at most 2^63 points
low : (n : ℕ) (e : ℕ × ℕ) → n ≤ 2 ^ 63 → IsEdge n e → e.0 < 2 ^ 63
low n e small h = omega (arith, h.0, h.1)

high : (n : ℕ) (e : ℕ × ℕ) → n ≤ 2 ^ 63 → IsEdge n e → e.1 < 2 ^ 63
high n e small h = omega (arith, h.1)

edit_plain : (n : ℕ) → n ≤ 2 ^ 63 → (e : EditItem) → IsEditItem n e → IsPlain (edit_data e)
edit_plain n small (dropped e) h = (IsUtf8-are_ascii _ refl, (low n e small h, (high n e small h, tt)))
edit_plain n small (kept e) h = (IsUtf8-are_ascii _ refl, (low n e small h, (high n e small h, tt)))
edit_plain n small (flipped e f) h = (IsUtf8-are_ascii _ refl, (low n e small h.0, (high n e small h.0, (low n f small h.1, (high n f small h.1, tt)))))

row_plain : (n : ℕ) → n ≤ 2 ^ 63 → (r : RowItem) → IsRowItem n r → IsPlain (row_data r)
row_plain n small (half p q w) h = (IsUtf8-are_ascii _ refl, (omega (arith, h.0), (omega (arith, h.1), (omega (arith, h.2), tt))))
row_plain n small (three p w) h = (IsUtf8-are_ascii _ refl, (omega (arith, h.0), (omega (arith, h.1), tt)))
row_plain n small (cross e f w) h =
    (IsUtf8-are_ascii _ refl, (low n e small h.0, (high n e small h.0, (low n f small h.1, (high n f small h.1, (omega (arith, h.2), tt))))))
row_plain n small (cap e w) h = (IsUtf8-are_ascii _ refl, (low n e small h.0, (high n e small h.0, (omega (arith, h.1), tt))))

commit_plain : (n : ℕ) → n ≤ 2 ^ 63 → (c : CommitItem) → IsCommitItem n c → IsPlain (commit_data c)
commit_plain n small c h = (omega (arith, h.caller), (omega (arith, h.seq), (plain_each (IsEditItem n) edit_data c.edits (edit_plain n small) h.edits, tt)))

start_plain : (n : ℕ) → n ≤ 2 ^ 63 → (e : ℕ × ℕ) → IsEdge n e → IsPlain (start_data e)
start_plain n small e h = (low n e small h, (high n e small h, tt))

pub certificate_plain : (n : ℕ) → n ≤ 2 ^ 63 → (c : CertificateParts) → AreCertificateParts n c → IsPlain (certificate_data c)
certificate_plain n small c h =
    (refl, (IsUtf8-are_ascii _ refl, (omega (arith, h.q), (IsUtf8-are_ascii _ refl, (plain_each (IsRowItem n) row_data c.rows (row_plain n small) h.rows, (IsUtf8-are_ascii _ refl, (h.value, tt)))))))

pub journal_plain : (n : ℕ) → n ≤ 2 ^ 63 → (j : JournalParts) → Each (IsCommitItem n) j.commits → Each (IsEdge n) j.start → IsPlain (journal_data j)
journal_plain n small j commits start =
    (refl, (IsUtf8-are_ascii _ refl, (plain_each (IsCommitItem n) commit_data j.commits (commit_plain n small) commits, (IsUtf8-are_ascii _ refl, (plain_each (IsEdge n) start_data j.start (start_plain n small) start, tt)))))

later_plain : (s : Summary) → IsSummaryWithin s → s.version < 2 ^ 63 → MembersArePlain (later_fields s)
later_plain s h v =
    (IsUtf8-are_ascii _ refl, (omega (arith, h.edges), (IsUtf8-are_ascii _ refl, (h.gap, (IsUtf8-are_ascii _ refl, (tt, (IsUtf8-are_ascii _ refl, (v, tt))))))))

cost_plain : (b : Bool) (s : Summary) → IsSummaryWithin s → s.version < 2 ^ 63 → MembersArePlain (cost_fields b s)
cost_plain true s h v = (IsUtf8-are_ascii _ refl, (h.cost, later_plain s h v))
cost_plain false s h v = later_plain s h v

pub summary_plain : (s : Summary) → IsSummaryWithin s → IsPlain (summary_data s)
summary_plain s h =
    let v : s.version < 2 ^ 63 = elim h.version [ inl two ↦ omega (arith, two) | inr one ↦ omega (arith, one.0) ] in
    let counts = each (λ c. c < 2 ^ 32) s.commits h.commits in
    (in_order (s.version == 2), (IsUtf8-are_ascii _ refl, (h.bound, (IsUtf8-are_ascii _ refl, (plain_each (λ c. c < 2 ^ 32) index_data s.commits (λ c k. omega (arith, k)) counts, cost_plain (s.version == 2) s h v)))))
  where
    in_order : (b : Bool) → put_all (member (codes "bound") (index_data s.bound) (member (codes "commits") (list_data (map index_data s.commits)) (cost_fields b s))) no_members ≡ member (codes "bound") (index_data s.bound) (member (codes "commits") (list_data (map index_data s.commits)) (cost_fields b s))
    in_order true = refl
    in_order false = refl

edit_depth : (e : EditItem) → depth (edit_data e) ≤ 1
edit_depth (dropped e) = omega arith
edit_depth (kept e) = omega arith
edit_depth (flipped e f) = omega arith

row_depth : (r : RowItem) → depth (row_data r) ≤ 1
row_depth (half p q w) = omega arith
row_depth (three p w) = omega arith
row_depth (cross e f w) = omega arith
row_depth (cap e w) = omega arith

commit_depth : (c : CommitItem) → depth (commit_data c) ≤ 3
commit_depth c = let k = shallow_each 1 edit_data c.edits edit_depth in grind (arith, k)

pub certificate_shallow : (c : CertificateParts) → depth (certificate_data c) ≤ 64
certificate_shallow c = let k = shallow_each 1 row_data c.rows row_depth in grind (arith, k)

pub journal_shallow : (j : JournalParts) → depth (journal_data j) ≤ 64
journal_shallow j =
    let k = shallow_each 3 commit_data j.commits commit_depth in
    let l = shallow_each 1 start_data j.start (λ e. omega arith) in
    grind (arith, k, l)

cost_depth : (b : Bool) (s : Summary) → members_depth (cost_fields b s) ≤ 1
cost_depth true s = omega arith
cost_depth false s = omega arith

pub summary_shallow : (s : Summary) → depth (summary_data s) ≤ 64
summary_shallow s = let k = shallow_each 0 index_data s.commits (λ c. omega arith) in let l = cost_depth (s.version == 2) s in grind (arith, k, l)
