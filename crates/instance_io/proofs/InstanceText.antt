-- The text of an instance in parts.
use Rattle.std.proofs.Common.{◌≡◌, ℕ, ◌+◌, ◌<◌, ◌≤◌, List, [], ◌∷◌, ◌++◌, length, map, drop, get_or, nat_lt, Bool, true, false, codes, decimal, refl, sym, ap, ◌∙◌, append_assoc, arith, ℤ, pos}
use Rattle.std.specs.List.{enumerate_from}
use Rattle.std.proofs.lemmas.List.{drop_more, drop_all, length-map, get_or-map}
use Rattle.json.specs.Print.{quoted, escape_byte}
use Rattle.serde_json.specs.Data.{Items, array, null}
use Rattle.serde_json.specs.Find.{of_integer}
use Rattle.serde_json.specs.View.{items_of}
use Rattle.serde_json.specs.Written.{comma_if, compact_text, items_text, number_text}
use Rattle.plane.specs.declared.coordinates.Point.{Point}
use Rattle.plane.specs.Geometry.{point}
use Rattle.text_defs.specs.Costs.{CostItem}
use Rattle.text_defs.specs.Texts.{point_data, cost_data, instance_text}
use Rattle.cost_defs.specs.Costs.{Costed}
use Rattle.json_text.proofs.Laws.{items_from, items_text-end}
use Rattle.instance_io.specs.Refusal.{coordinates, cost_item}
use Rattle.instance_io.specs.Writing.{costs_text, points_text}

pub point_text : (i : ℕ) (x y : ℤ) → compact_text (point_data (i, (x, y)))
    ≡ codes "{\"i\":" ++ (decimal i ++ (codes ",\"x\":" ++ (number_text (of_integer x) ++ (codes ",\"y\":" ++ (number_text (of_integer y) ++ 125 ∷ [])))))
unfolding escape_byte
point_text i x y = refl

pub cost_text : (i j c : ℕ) → compact_text (cost_data ((i, j), c)) ≡ 91 ∷ [] ++ (decimal i ++ (44 ∷ [] ++ (decimal j ++ (44 ∷ [] ++ (decimal c ++ 93 ∷ [])))))
cost_text i j c = refl

-- the points from place k on
abbrev pub rest : ℕ → List (ℤ × ℤ) → Items
rest k points = items_of (map point_data (enumerate_from k (drop k points)))

pub points_text-items : (points : List (ℤ × ℤ)) → points_text points ≡ 91 ∷ [] ++ items_text false (rest 0 points)
points_text-items points = refl

pub costs_text-items : (x : CostItem) (costs : List CostItem) → costs_text (x ∷ costs) ≡ codes "\"costs\":[" ++ (items_text false (items_of (map cost_data (x ∷ costs))) ++ 44 ∷ [])
costs_text-items x costs = refl

pub parts_text : (costs : List CostItem) (name : List ℕ) (points : List (ℤ × ℤ)) → instance_text costs name points
    ≡ codes "{" ++ (costs_text costs ++ (codes "\"name\":" ++ (quoted name ++ (codes ",\"points\":" ++ (points_text points ++ 125 ∷ [])))))
unfolding instance_text escape_byte
parts_text [] name points = refl
parts_text (x ∷ costs) name points =
    let rest = codes "\"name\":" ++ (quoted name ++ (codes ",\"points\":" ++ (points_text points ++ 125 ∷ []))) in
    ap (λ text. codes "{\"costs\":" ++ text) (sym (append_assoc (compact_text (array (items_of (map cost_data (x ∷ costs))))) (codes ",") rest))

rest_here : (k : ℕ) (points : List Point) → k < length points → rest k (map coordinates points) ≡ items_of (map point_data (enumerate_from k (coordinates (point points k) ∷ drop (k + 1) (map coordinates points))))
rest_here k points h =
    let l : k < length (map coordinates points) = let e = length-map points coordinates in omega (arith, e) in
    ap (λ xs. items_of (map point_data (enumerate_from k xs))) (drop_more (map coordinates points) k (pos 0, pos 0) l
    ∙ ap (λ p. p ∷ drop (k + 1) (map coordinates points)) (get_or-map coordinates points k (record { x = pos 0; y = pos 0 }) (pos 0, pos 0) h))

pub next_point : (k : ℕ) (points : List Point) (old new all : List ℕ) → k < length points
    → old ++ items_text (nat_lt 0 k) (rest k (map coordinates points)) ≡ all
    → new ≡ old ++ (comma_if (nat_lt 0 k) ++ compact_text (point_data (k, coordinates (point points k))))
    → new ++ items_text (nat_lt 0 (k + 1)) (rest (k + 1) (map coordinates points)) ≡ all
next_point k points old new all h e n =
    let later : nat_lt 0 (k + 1) ≡ true = grind arith in
    let text = compact_text (point_data (k, coordinates (point points k))) in
    let more = items_text true (rest (k + 1) (map coordinates points)) in
    let here : items_text (nat_lt 0 k) (rest k (map coordinates points)) ≡ comma_if (nat_lt 0 k) ++ (text ++ more) = ap (items_text (nat_lt 0 k)) (rest_here k points h) in
    rw (later, n) (append_assoc old (comma_if (nat_lt 0 k) ++ text) more ∙ (ap (λ xs. old ++ xs) (append_assoc (comma_if (nat_lt 0 k)) text more ∙ sym here) ∙ e))

pub no_more : (k : ℕ) (points : List Point) → length points ≤ k → (later : Bool) → items_text later (rest k (map coordinates points)) ≡ 93 ∷ []
no_more k points h later =
    ap (λ xs. items_text later (items_of (map point_data (enumerate_from k xs)))) (drop_all k (map coordinates points) (let e = length-map points coordinates in omega (arith, e)))

-- ---- the costs

pub cost_at : (D : List Costed) (k : ℕ) (x : Costed) → k < length D → x ≡ get_or D k x → get_or (map cost_data (map cost_item D)) k null ≡ cost_data (cost_item x)
cost_at D k x h e =
    let l : k < length (map cost_item D) = let n = length-map D cost_item in omega (arith, n, h) in
    get_or-map cost_data (map cost_item D) k (cost_item x) null l ∙ ap cost_data (get_or-map cost_item D k x (cost_item x) h ∙ ap cost_item (sym e))

pub costs_end : (D : List Costed) (k : ℕ) (old start text end : List ℕ) → 0 < length D → length D ≤ k → start ≡ old ++ codes "\"costs\":["
    → text ++ items_text (nat_lt 0 k) (items_from k (map cost_data (map cost_item D))) ≡ start ++ items_text false (items_from 0 (map cost_data (map cost_item D)))
    → end ≡ text ++ codes "]," → end ≡ old ++ costs_text (map cost_item D)
costs_end [] k old start text end some h s e n = absurd (omega (arith, some))
costs_end (x ∷ D) k old start text end some h s e n =
    let ds = map cost_data (map cost_item (x ∷ D)) in
    let items = items_text false (items_of ds) in
    let begin = codes "\"costs\":[" in
    let count : length ds ≤ k = let a = length-map (map cost_item (x ∷ D)) cost_data in let b = length-map (x ∷ D) cost_item in omega (arith, a, b, h) in
    let whole : text ++ 93 ∷ [] ≡ start ++ items = ap (λ xs. text ++ xs) (sym (items_text-end k ds (nat_lt 0 k) count)) ∙ e in
    n ∙ (sym (append_assoc text (93 ∷ []) (44 ∷ [])) ∙ (ap (λ xs. xs ++ 44 ∷ []) (whole ∙ ap (λ xs. xs ++ items) s)
    ∙ (ap (λ xs. xs ++ 44 ∷ []) (append_assoc old begin items) ∙ (append_assoc old (begin ++ items) (44 ∷ []) ∙ ap (λ xs. old ++ xs) (append_assoc begin items (44 ∷ []))))))
