-- One row added to the sums of a strip: along a line, along a column, to all.
use Rattle.std.proofs.Common.{◌≡◌, ◌≢◌, ℕ, ◌+◌, ◌*◌, ◌<◌, ◌≤◌, ◌⊎◌, inl, inr, List, [], ◌++◌, length, get_or, take, set, true, false, cond, Some, None, sym, ◌∙◌, ap, ap₂, refl, subst, arith}
use Rattle.std.specs.Prelude.{replicate}
use Rattle.std.proofs.Math.Nat.{mul-le-mul_left}
use Rattle.std.proofs.Math.Seq.{take-length}
use Rattle.std.proofs.lemmas.Bool.{cases_lt}
use Rattle.std.proofs.lemmas.Bool.Decides.{same_from_decides}
use Rattle.std.proofs.lemmas.List.{length-set, length-take, length-replicate, get_or-replicate, get_or-set_same, get_or-set_other, take-append-le}
use Rattle.std.proofs.lemmas.List.Sums.{sum_by_more}
use Rattle.std.proofs.lemmas.List.Elements.{All-take}
use Rattle.plane.specs.declared.coordinates.Point.{Point}
use Rattle.price_defs.specs.declared.row.Row.{Row}
use Rattle.price_defs.specs.declared.row.Row.TheVariants.{Half, Three, Cross, Cap}
use Rattle.price_defs.specs.Rows.{Counts, counts, stand, weight}
use Rattle.price_defs.specs.Limits.{AreLight}
use Rattle.price_defs.specs.Loads.{given}
use Rattle.price_defs.proofs.laws.Counted.{given_no}
use Rattle.price_defs.proofs.laws.Counting.{counts_turned}
use Rattle.price_defs.proofs.laws.Tests.{counts_decides}
use Rattle.price_defs.proofs.laws.Values.{gives_le}
use Rattle.given_sums.specs.Sums.{entry, AreSums, AreBelow, IsAdded, IsAddedAfter, IsAddedBefore, IsLine, IsColumn}

-- places
pub place_once : (w a b c d : ℕ) → b < w → d < w → a * w + b ≡ c * w + d → (a ≡ c) × (b ≡ d)
place_once w a b c d bw dw e = elim (cases_lt a c) [
  | inl l ↦ absurd (let h : w * (a + 1) ≤ w * c = mul-le-mul_left w (let s : a + 1 ≤ c = omega arith in s) in omega (arith, h, e))
  | inr g ↦ elim (cases_lt c a) [
    | inl l ↦ absurd (let h : w * (c + 1) ≤ w * a = mul-le-mul_left w (let s : c + 1 ≤ a = omega arith in s) in omega (arith, h, e))
    | inr m ↦ (let s : a ≡ c = omega arith in (s, omega (arith, e, ap (λ n. n * w) s)))
  ]
]

pub place_in : (w a b : ℕ) → a < 32 → b < w → a * w + b < 32 * w
place_in w a b al bw = let h : w * (a + 1) ≤ w * 32 = mul-le-mul_left w (let s : a + 1 ≤ 32 = omega arith in s) in omega (arith, h)

-- one sum is changed
changed_other : (now new : List ℕ) (k v m : ℕ) → new ≡ set now k v → m ≢ k → entry new m ≡ entry now m
changed_other now new k v m is ne = ap (λ (x : List ℕ). entry x m) is ∙ get_or-set_other now k m v 0 ne

changed_same : (now new : List ℕ) (k v : ℕ) → new ≡ set now k v → k < length now → entry new k ≡ v
changed_same now new k v is l = ap (λ (x : List ℕ). entry x k) is ∙ get_or-set_same now k v 0 l

changed_count : (now new : List ℕ) (k v : ℕ) → new ≡ set now k v → length new ≡ length now
changed_count now new k v is = ap length is ∙ length-set now k v

-- along a line
pub line_none : (S : List Point) (row : Row) (p first w a : ℕ) (old : List ℕ) → IsLine S row p first w a (a + 1) old old
line_none S row p first w a old = record {
  count = refl;
  done = λ b ab bk bw. absurd (omega arith);
  left = λ b kb bw. refl;
  rest = λ c b ca bw. refl;
}

pub line_more : (S : List Point) (row : Row) (p first w a b g : ℕ) (old now new : List ℕ) → b < w → a * w + b < length now → g ≡ given S p (first + b) row
    → new ≡ set now (a * w + b) (entry now (a * w + b) + g) → IsLine S row p first w a b old now → IsLine S row p first w a (b + 1) old new
line_more S row p first w a b g old now new bw inside given_is is line = record {
  count = changed_count now new _ _ is ∙ line.count;
  done = λ d ad db dw. elim (cases_lt d b) [
    | inl l ↦ changed_other now new _ _ (a * w + d) is (λ e. absurd (let h = place_once w a d a b dw bw e in omega (arith, h.1))) ∙ line.done d ad l dw
    | inr m ↦
        let q : d ≡ b = omega arith in
        let s : entry new (a * w + b) ≡ entry now (a * w + b) + g = changed_same now new (a * w + b) _ is inside in
        let o : entry now (a * w + b) ≡ entry old (a * w + b) = line.left b (omega arith) bw in
        subst (λ x. entry new (a * w + x) ≡ entry old (a * w + x) + given S p (first + x) row) (sym q) (s ∙ ap₂ (λ x y. x + y) o given_is)
  ];
  left = λ d bd dw. changed_other now new _ _ (a * w + d) is (λ e. absurd (let h = place_once w a d a b dw bw e in omega (arith, h.1))) ∙ line.left d (omega arith) dw;
  rest = λ c d ca dw. changed_other now new _ _ (c * w + d) is (λ e. ca (place_once w c d a b dw bw e).0) ∙ line.rest c d ca dw;
}

pub line_all : (S : List Point) (row : Row) (p first w a : ℕ) (old new : List ℕ) → first + a ≡ p → IsLine S row p first w a w old new → IsAddedAfter S row p first w old new
line_all S row p first w a old new is part = record {
  count = part.count;
  line = λ c d cl cd dw e.
      let q : a ≡ c = omega arith in
      subst (λ x. entry new (x * w + d) ≡ entry old (x * w + d) + given S p (first + d) row) q (part.done d (omega arith) dw dw);
  rest = λ c d cl cd dw ne. part.rest c d (λ e. ne (omega (arith, e))) dw;
}

pub after_none : (S : List Point) (row : Row) (p first w : ℕ) (old : List ℕ) → ((a : ℕ) → a < 32 → first + a ≢ p) → IsAddedAfter S row p first w old old
after_none S row p first w old never = record {
  count = refl;
  line = λ a b al ab bw e. absurd (never a al e);
  rest = λ a b al ab bw ne. refl;
}

-- along a column
pub column_none : (S : List Point) (row : Row) (p first w b : ℕ) (old : List ℕ) → IsColumn S row p first w b 0 old old
column_none S row p first w b old = record {
  count = refl;
  done = λ a ak. absurd (omega arith);
  left = λ a ka. refl;
  rest = λ a c cb cw. refl;
}

pub column_more : (S : List Point) (row : Row) (p first w b a g : ℕ) (old now new : List ℕ) → b < w → a * w + b < length now → g ≡ given S p (first + a) row
    → new ≡ set now (a * w + b) (entry now (a * w + b) + g) → IsColumn S row p first w b a old now → IsColumn S row p first w b (a + 1) old new
column_more S row p first w b a g old now new bw inside given_is is column = record {
  count = changed_count now new _ _ is ∙ column.count;
  done = λ c ca. elim (cases_lt c a) [
    | inl l ↦ changed_other now new _ _ (c * w + b) is (λ e. absurd (let h = place_once w c b a b bw bw e in omega (arith, h.0))) ∙ column.done c l
    | inr m ↦
        let q : c ≡ a = omega arith in
        let s : entry new (a * w + b) ≡ entry now (a * w + b) + g = changed_same now new (a * w + b) _ is inside in
        let o : entry now (a * w + b) ≡ entry old (a * w + b) = column.left a (omega arith) in
        subst (λ x. entry new (x * w + b) ≡ entry old (x * w + b) + given S p (first + x) row) (sym q) (s ∙ ap₂ (λ x y. x + y) o given_is)
  ];
  left = λ c ac. changed_other now new _ _ (c * w + b) is (λ e. absurd (let h = place_once w c b a b bw bw e in omega (arith, h.0))) ∙ column.left c (omega arith);
  rest = λ c d db dw. changed_other now new _ _ (c * w + d) is (λ e. db (place_once w c d a b dw bw e).1) ∙ column.rest c d db dw;
}

pub column_all : (S : List Point) (row : Row) (p first w b k : ℕ) (old new : List ℕ) → first + b ≡ p → ((a : ℕ) → a < 32 → a < b → a < k) → IsColumn S row p first w b k old new → IsAddedBefore S row p first w old new
column_all S row p first w b k old new is far part = record {
  count = part.count;
  column = λ c d cl cd dw e.
      let q : b ≡ d = omega arith in
      subst (λ x. entry new (c * w + x) ≡ entry old (c * w + x) + given S p (first + c) row) q (part.done c (far c cl (omega arith)));
  rest = λ c d cl cd dw ne. part.rest c d (λ e. ne (omega (arith, e))) dw;
}

pub before_none : (S : List Point) (row : Row) (p first w : ℕ) (old : List ℕ) → p ≤ first → IsAddedBefore S row p first w old old
before_none S row p first w old le = record {
  count = refl;
  column = λ a b al ab bw e. absurd (omega arith);
  rest = λ a b al ab bw ne. refl;
}

-- what is given doesn't depend on the order of the ends
given_turned : (S : List Point) (row : Row) (i j : ℕ) → given S i j row ≡ given S j i row
given_turned S row i j =
    ap (λ t. cond t (weight row) 0)
    (same_from_decides (counts S row i j) (counts S row j i) (counts_decides S row i j)
    (λ t. counts_turned S row j i ((counts_decides S row j i).0 t), λ h. (counts_decides S row j i).1 (counts_turned S row i j h)))

same_stand : (p q : ℕ) → Some p ≡ Some q → p ≡ q
same_stand p q e = cc

not_at : (S : List Point) (row : Row) (p i j : ℕ) → stand row ≡ Some p → i ≢ p → j ≢ p → Counts S row i j → ⊥
not_at S (Half u q w) p i j at ip jp (inl h) = ip (h.0 ∙ same_stand u p at)
not_at S (Half u q w) p i j at ip jp (inr h) = jp (h.0 ∙ same_stand u p at)
not_at S (Three u w) p i j at ip jp (inl h) = ip (h ∙ same_stand u p at)
not_at S (Three u w) p i j at ip jp (inr h) = jp (h ∙ same_stand u p at)
not_at S (Cross e f w) p i j at ip jp h = h
not_at S (Cap e w) p i j at ip jp h = h

nowhere : (S : List Point) (row : Row) (i j : ℕ) → stand row ≡ None → Counts S row i j → ⊥
nowhere S (Half u q w) i j at h = cc
nowhere S (Three u w) i j at h = cc
nowhere S (Cross e f w) i j at h = h
nowhere S (Cap e w) i j at h = h

-- a row at p gives nothing to pairs without p
pub added_both : (S : List Point) (row : Row) (p first w : ℕ) (old now new : List ℕ) → stand row ≡ Some p → IsAddedAfter S row p first w old now → IsAddedBefore S row p first w now new → IsAdded S row first w old new
added_both S row p first w old now new at after before = record {
  count = before.count ∙ after.count;
  each = λ a b al ab bw. elim (cases_or (first + a) p) [
    | inl e ↦
        let h : entry new (a * w + b) ≡ entry old (a * w + b) + given S p (first + b) row = before.rest a b al ab bw (λ x. absurd (omega arith)) ∙ after.line a b al ab bw e in
        subst (λ x. entry new (a * w + b) ≡ entry old (a * w + b) + given S x (first + b) row) (sym e) h
    | inr ne ↦ elim (cases_or (first + b) p) [
      | inl e ↦
          let h : entry new (a * w + b) ≡ entry now (a * w + b) + given S p (first + a) row = before.column a b al ab bw e in
          let g : given S p (first + a) row ≡ given S (first + a) (first + b) row = ap (λ x. given S x (first + a) row) (sym e) ∙ given_turned S row (first + b) (first + a) in
          h ∙ ap₂ (λ x y. x + y) (after.rest a b al ab bw ne) g
      | inr nf ↦
          let z : given S (first + a) (first + b) row ≡ 0 = given_no S row (first + a) (first + b) (not_at S row p (first + a) (first + b) at ne nf) in
          omega (arith, before.rest a b al ab bw nf, after.rest a b al ab bw ne, z)
    ]
  ];
}
  where
    cases_or : (x y : ℕ) → (x ≡ y) ⊎ (x ≢ y)
    cases_or x y = elim (cases_lt x y) [
      | inl l ↦ inr (λ e. absurd (omega arith))
      | inr g ↦ elim (cases_lt y x) [ inl l ↦ inr (λ e. absurd (omega arith)) | inr m ↦ inl (omega arith) ]
    ]

pub added_none : (S : List Point) (row : Row) (first w : ℕ) (old : List ℕ) → stand row ≡ None → IsAdded S row first w old old
added_none S row first w old at = record {
  count = refl;
  each = λ a b al ab bw. (let z : given S (first + a) (first + b) row ≡ 0 = given_no S row (first + a) (first + b) (nowhere S row (first + a) (first + b) at) in omega (arith, z));
}

-- one half of a row leaves room for the other
pub room_after : (S : List Point) (row : Row) (p first w : ℕ) (old now : List ℕ) → weight row ≤ 1000000000000 → AreBelow 200000000000000000 w old → IsAddedAfter S row p first w old now → AreBelow 300000000000000000 w now
room_after S row p first w old now light room after = record {
  count = after.count ∙ room.count;
  each = λ a b al ab bw. elim (cases_lt (first + a) p) [
    | inl l ↦ omega (arith, after.rest a b al ab bw (λ x. absurd (omega arith)), room.each a b al ab bw)
    | inr g ↦ elim (cases_lt p (first + a)) [
      | inl l ↦ omega (arith, after.rest a b al ab bw (λ x. absurd (omega arith)), room.each a b al ab bw)
      | inr m ↦ omega (arith, after.line a b al ab bw (omega arith), room.each a b al ab bw, given_light p (first + b))
    ]
  ];
}
  where
    given_light : (i j : ℕ) → given S i j row ≤ 1000000000000
    given_light i j = elim (counts S row i j) as (λ t. cond t (weight row) 0 ≤ 1000000000000) [ true ↦ omega arith | false ↦ omega arith ]

pub room_more : (w : ℕ) (sums : List ℕ) → AreBelow 200000000000000000 w sums → AreBelow 300000000000000000 w sums
room_more w sums room = record { count = room.count; each = λ a b al ab bw. omega (arith, room.each a b al ab bw) }

-- the sums of one row more
pub sums_more : (S : List Point) (rows : List Row) (k : ℕ) (row : Row) (first w : ℕ) (old new : List ℕ) → k < length rows → row ≡ get_or rows k row → AreSums S (take k rows) first w old → IsAdded S row first w old new
    → AreSums S (take (k + 1) rows) first w new
sums_more S rows k row first w old new l is sums added = record {
  reach = sums.reach;
  count = added.count ∙ sums.count;
  each = λ a b al ab bw.
      added.each a b al ab bw
      ∙ ap₂ (λ x y. x + y) (sums.each a b al ab bw) (ap (given S (first + a) (first + b)) is)
      ∙ sym (sum_by_more (given S (first + a) (first + b)) rows k row l);
}

pub sums_none : (S : List Point) (first w : ℕ) (sums : List ℕ) → first + w ≡ length S → sums ≡ replicate (32 * w) 0 → AreSums S [] first w sums
sums_none S first w sums reach is = record {
  reach = reach;
  count = ap length is ∙ length-replicate (32 * w) 0;
  each = λ a b al ab bw. ap (λ (x : List ℕ). entry x (a * w + b)) is ∙ get_or-replicate (32 * w) (a * w + b) 0 0 (place_in w a b al bw);
}

pub sums_room : (S : List Point) (rows : List Row) (k first w : ℕ) (sums : List ℕ) → length rows ≤ 200000 → AreLight rows → AreSums S (take k rows) first w sums → AreBelow 200000000000000000 w sums
sums_room S rows k first w sums few light is = record {
  count = is.count;
  each = λ a b al ab bw.
      let t : AreLight (take k rows) = All-take (λ row. weight row ≤ 1000000000000) k rows light in
      omega (arith, is.each a b al ab bw, gives_le S (take k rows) (first + a) (first + b) t (omega (arith, length-take k rows)));
}

-- a list that is written into a vector of its length
pub written_back : (n : ℕ) (xs rest : List ℕ) → n ≡ length xs → take n (xs ++ rest) ≡ xs
written_back n xs rest e = ap (λ m. take m (xs ++ rest)) e ∙ take-append-le (length xs) xs rest (omega arith) ∙ take-length xs
