-- Changes of a star's list that are taken back: marks, and a neighbour put in and left out.
use Rattle.std.proofs.Common.{◌≡◌, ◌≢◌, ℕ, Bool, true, false, cond, nat_eq, List, [], ◌∷◌, inl, inr, sym, ◌∙◌, ap, subst, refl}
use Rattle.std.proofs.lemmas.Bool.{cond_both, cases_Bool, ne_eqb}
use Rattle.std.proofs.lemmas.Bool.Decides.{Decides-eqb}
use Rattle.journal_defs.specs.Neighbours.{mark_as, leave_out, put_in_turn, turns_before}
use Rattle.plane.specs.declared.coordinates.Point.{Point}
use Rattle.plane.specs.Geometry.{point}
use Rattle.journal_defs.proofs.laws.Turned.{In}

cond_true : {A : Type 0} (b : Bool) (x y : A) → b ≡ true → cond b x y ≡ x
cond_true b x y h = ap (λ (z : Bool). cond z x y) h

cond_false : {A : Type 0} (b : Bool) (x y : A) → b ≡ false → cond b x y ≡ y
cond_false b x y h = ap (λ (z : Bool). cond z x y) h

-- a mark changed and set as it was
pub mark_back : (w : ℕ) (b c : Bool) (l : List (ℕ × Bool)) → ((x : ℕ × Bool) → In x l → x.0 ≡ w → x.1 ≡ b) → mark_as w b (mark_as w c l) ≡ l
unfolding mark_as
mark_back w b c [] h = refl
mark_back w b c (x ∷ xs) h =
    let head : cond (nat_eq x.0 w) b (cond (nat_eq x.0 w) c x.1) ≡ x.1 =
    elim (cases_Bool (nat_eq x.0 w)) [
      | inl t ↦ cond_true (nat_eq x.0 w) b (cond (nat_eq x.0 w) c x.1) t ∙ sym (h x (inl refl) ((Decides-eqb x.0 w).0 t))
      | inr f ↦ cond_false (nat_eq x.0 w) b (cond (nat_eq x.0 w) c x.1) f ∙ cond_false (nat_eq x.0 w) c x.1 f
    ] in
    let P : Bool → List (ℕ × Bool) = λ m. (x.0, m) ∷ mark_as w b (mark_as w c xs) in
    let Q : List (ℕ × Bool) → List (ℕ × Bool) = λ z. x ∷ z in
    ap P head ∙ ap Q (mark_back w b c xs (λ y i. h y (inr i)))

-- a list without w stays as it is
pub none_left_out : (w : ℕ) (l : List (ℕ × Bool)) → ((x : ℕ × Bool) → In x l → x.0 ≢ w) → leave_out w l ≡ l
unfolding leave_out
none_left_out w [] h = refl
none_left_out w (x ∷ xs) h =
    cond_false (nat_eq x.0 w) (leave_out w xs) (x ∷ leave_out w xs) (ne_eqb x.0 w (h x (inl refl)))
    ∙ ap (λ (z : List (ℕ × Bool)). x ∷ z) (none_left_out w xs (λ y i. h y (inr i)))

-- a neighbour put in and left out
pub put_back : (S : List Point) (v w : ℕ) (b : Bool) (l : List (ℕ × Bool)) → ((x : ℕ × Bool) → In x l → x.0 ≢ w) → leave_out w (put_in_turn S v (w, b) l) ≡ l
unfolding leave_out put_in_turn
put_back S v w b [] h = cond_true (nat_eq w w) [] ((w, b) ∷ []) ((Decides-eqb w w).1 refl)
put_back S v w b (y ∷ ys) h =
    cond_both (turns_before (point S v) (point S w) (point S y.0)) ((w, b) ∷ y ∷ ys) (y ∷ put_in_turn S v (w, b) ys) (λ z. leave_out w z ≡ y ∷ ys)
    (λ t. cond_true (nat_eq w w) (leave_out w (y ∷ ys)) ((w, b) ∷ leave_out w (y ∷ ys)) ((Decides-eqb w w).1 refl) ∙ none_left_out w (y ∷ ys) h)
    (λ f. cond_false (nat_eq y.0 w) (leave_out w (put_in_turn S v (w, b) ys)) (y ∷ leave_out w (put_in_turn S v (w, b) ys)) (ne_eqb y.0 w (h y (inl refl)))
    ∙ ap (λ (z : List (ℕ × Bool)). y ∷ z) (put_back S v w b ys (λ x i. h x (inr i))))

-- in turning order by the test, each neighbour once
abbrev pub TurnsByTest : List Point → ℕ → List (ℕ × Bool) → Type 0
TurnsByTest S v [] = Unit {0}
TurnsByTest S v (x ∷ xs) =
    ((y : ℕ × Bool) → In y xs → (turns_before (point S v) (point S x.0) (point S y.0) ≡ true) × (turns_before (point S v) (point S y.0) (point S x.0) ≡ false) × (y.0 ≢ x.0))
    × TurnsByTest S v xs

-- before all of the list
put_front : (S : List Point) (v : ℕ) (x : ℕ × Bool) (l : List (ℕ × Bool)) → ((y : ℕ × Bool) → In y l → turns_before (point S v) (point S x.0) (point S y.0) ≡ true) → put_in_turn S v x l ≡ x ∷ l
unfolding put_in_turn
put_front S v x [] h = refl
put_front S v x (y ∷ ys) h = cond_true (turns_before (point S v) (point S x.0) (point S y.0)) (x ∷ y ∷ ys) (y ∷ put_in_turn S v x ys) (h y (inl refl))

-- a neighbour left out and put in
pub out_and_in : (S : List Point) (v : ℕ) (x : ℕ × Bool) (l : List (ℕ × Bool)) → TurnsByTest S v l → In x l → put_in_turn S v x (leave_out x.0 l) ≡ l
unfolding leave_out put_in_turn
out_and_in S v x [] turns i = absurd i
out_and_in S v x (y ∷ ys) turns (inl same) =
    let P : ℕ × Bool → Type 0 = λ z. put_in_turn S v z (leave_out z.0 (y ∷ ys)) ≡ y ∷ ys in
    subst P same
    (ap (λ (z : List (ℕ × Bool)). put_in_turn S v y z)
    (cond_true (nat_eq y.0 y.0) (leave_out y.0 ys) (y ∷ leave_out y.0 ys) ((Decides-eqb y.0 y.0).1 refl) ∙ none_left_out y.0 ys (λ z i. (turns.0 z i).2))
    ∙ put_front S v y ys (λ z i. (turns.0 z i).0))
out_and_in S v x (y ∷ ys) turns (inr i) =
    let t = turns.0 x i in
    ap (λ (z : List (ℕ × Bool)). put_in_turn S v x z) (cond_false (nat_eq y.0 x.0) (leave_out x.0 ys) (y ∷ leave_out x.0 ys) (ne_eqb y.0 x.0 (λ e. t.2 (sym e))))
    ∙ cond_false (turns_before (point S v) (point S x.0) (point S y.0)) (x ∷ y ∷ leave_out x.0 ys) (y ∷ put_in_turn S v x (leave_out x.0 ys)) t.1
    ∙ ap (λ (z : List (ℕ × Bool)). y ∷ z) (out_and_in S v x ys turns.1 i)
