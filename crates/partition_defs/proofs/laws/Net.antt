-- A triangulation of n points, over the signs of three of them: the flip of a segment.
use Rattle.std.proofs.Common.{◌≡◌, ◌≢◌, ℕ, ℤ, pos, ◌<◌, ◌⊎◌, inl, inr, sym, refl, ◌∙◌, subst}
use Rattle.std.specs.Prelude.{◌<ℤ◌, ◌≤ℤ◌}
use Rattle.plane_laws.specs.Quads.{AreEnds}
use Rattle.plane_laws.proofs.Four.{same_or, empty_next, Four, empty_after, clear_after, end_after}
use Rattle.plane_laws.proofs.Field.{Laws, Over, over_back, over_turned, Inside, apart, by_high, not_beyond, rot, rot_back, left_first, left_second, zero_first, zero_second, exit, two_on_side}
use Rattle.number_laws.proofs.Signs.{weak_of_positive, zero_not_positive}

-- r is the apex of p to q among the segments J
pub record Apex (n : ℕ) (o : ℕ → ℕ → ℕ → ℤ) (J : ℕ → ℕ → Type 0) (p q r : ℕ) : Type 0 where
  pub within : r < n
  pub first : J p r
  pub second : J q r
  pub left : pos 0 <ℤ o p q r
  pub empty : (s : ℕ) → s < n → s ≢ p → s ≢ q → s ≢ r → ¬ Inside o p q r s

-- no point is right of the line from i to j
abbrev pub AllLeft : (n : ℕ) (o : ℕ → ℕ → ℕ → ℤ) (i j : ℕ) → Type 0
AllLeft n o i j = (k : ℕ) → k < n → pos 0 ≤ℤ o i j k

-- the segments J are a triangulation
pub record Net (n : ℕ) (o : ℕ → ℕ → ℕ → ℤ) (B : ℕ → ℕ → ℕ → Type 0) (J : ℕ → ℕ → Type 0) : Type 0 where
  pub within : (i j : ℕ) → J i j → i < n
  pub back : (i j : ℕ) → J i j → J j i
  pub clear : (i j : ℕ) → J i j → (k : ℕ) → k < n → ¬ B k i j
  pub plane : (i j k l : ℕ) → J i j → J k l → ¬ Over o i j k l
  pub border : (i j : ℕ) → i < n → j < n → i ≢ j → ((k : ℕ) → k < n → ¬ B k i j) → AllLeft n o i j → J i j
  pub met : (i : ℕ) → i < n → (j : ℕ) × J i j
  pub apex : (i j s : ℕ) → J i j → s < n → pos 0 <ℤ o i j s → (r : ℕ) × Apex n o J i j r

-- a-b can be flipped to c-d
pub record Quad (n : ℕ) (o : ℕ → ℕ → ℕ → ℤ) (J : ℕ → ℕ → Type 0) (a b c d : ℕ) : Type 0 where
  pub joined : J a b
  pub left : Apex n o J a b c
  pub right : Apex n o J b a d
  pub first : pos 0 <ℤ o d c a
  pub second : pos 0 <ℤ o c d b

-- the segments J with c-d for a-b
pub record Flipped (J K : ℕ → ℕ → Type 0) (a b c d : ℕ) : Type 0 where
  pub old : (i j : ℕ) → J i j → ¬ AreEnds a b i j → K i j
  pub new : (i j : ℕ) → AreEnds c d i j → K i j
  pub only : (i j : ℕ) → K i j → (J i j × ¬ AreEnds a b i j) ⊎ AreEnds c d i j

pub ends_or : {P : Type 0} (a b i j : ℕ) → (i ≡ a → j ≡ b → P) → (i ≡ b → j ≡ a → P) → (¬ AreEnds a b i j → P) → P
ends_or a b i j f g h =
    same_or i a
    (λ e. same_or j b (λ k. f e k)
    (λ k. same_or i b (λ x. same_or j a (λ y. g x y) (λ y. h (λ z. elim z [ inl w ↦ k w.1 | inr w ↦ y w.1 ])))
    (λ x. h (λ z. elim z [ inl w ↦ k w.1 | inr w ↦ x w.0 ]))))
    (λ e. same_or i b (λ x. same_or j a (λ y. g x y) (λ y. h (λ z. elim z [ inl w ↦ e w.0 | inr w ↦ y w.1 ])))
    (λ x. h (λ z. elim z [ inl w ↦ e w.0 | inr w ↦ x w.0 ])))

pub ends_turned : (a b i j : ℕ) → AreEnds a b i j → AreEnds b a i j
ends_turned a b i j (inl h) = inr h
ends_turned a b i j (inr h) = inl h

pub ends_swapped : (a b i j : ℕ) → AreEnds a b i j → AreEnds a b j i
ends_swapped a b i j (inl h) = inr (h.1, h.0)
ends_swapped a b i j (inr h) = inl (h.1, h.0)

pub flipped_turned : (J K : ℕ → ℕ → Type 0) (a b c d : ℕ) → Flipped J K a b c d → Flipped J K b a d c
flipped_turned J K a b c d f = record {
  old = λ i j h k. f.old i j h (λ e. k (ends_turned a b i j e));
  new = λ i j e. f.new i j (ends_turned d c i j e);
  only = λ i j h. elim (f.only i j h) [ inl k ↦ inl (k.0, λ e. k.1 (ends_turned b a i j e)) | inr e ↦ inr (ends_turned c d i j e) ];
}

module _ (n : ℕ) (o : ℕ → ℕ → ℕ → ℤ) (B : ℕ → ℕ → ℕ → Type 0) (L : Laws o B) where
  -- the same triangle from its next side
  pub apex_next : (J : ℕ → ℕ → Type 0) (p q r : ℕ) → ((i j : ℕ) → J i j → J j i) → p < n → J p q → Apex n o J p q r → Apex n o J q r p
  apex_next J p q r back pn h A = record {
    within = pn;
    first = back p q h;
    second = back p r A.first;
    left = rot o B L p q r A.left;
    empty = empty_next n o p q r A.empty;
  }

  module _ (J : ℕ → ℕ → Type 0) (N : Net n o B J) where
    next_apex : (p q r : ℕ) → J p q → Apex n o J p q r → Apex n o J q r p
    next_apex p q r h A = apex_next J p q r N.back (N.within p q h) h A

    last_apex : (p q r : ℕ) → J p q → Apex n o J p q r → Apex n o J r p q
    last_apex p q r h A = next_apex q r p A.second (next_apex p q r h A)

    -- a directed segment has one apex at most
    pub apex_once : (p q r s : ℕ) → Apex n o J p q r → Apex n o J p q s → r ≡ s
    apex_once p q r s A C =
        same_or r s (λ e. e)
        (λ ne. absurd (two_on_side o B L p q r s A.left C.left
        (λ x. N.plane r q p s (N.back q r A.second) C.first x)
        (λ x. N.plane p r q s A.first C.second x)
        (λ x. A.empty s C.within (left_first o B L p q s C.left) (left_second o B L p q s C.left) (λ e. ne (sym e)) x)
        (λ x. C.empty r A.within (left_first o B L p q r A.left) (left_second o B L p q r A.left) ne x)))

    -- no segment leaves a corner into the triangle
    pub none_enters : (p q r u : ℕ) → Apex n o J p q r → J r u → pos 0 <ℤ o r p u → pos 0 <ℤ o r u q → J p q → ⊥
    none_enters p q r u A h x y side =
        by_high (o q p u)
        (λ z. N.plane p q u r side (N.back r u h) (record { end = A.left; start = z; first = rot_back o B L r p u x; second = y }))
        (λ z. A.empty u (N.within u r (N.back r u h)) up (left_second_of y) (left_first_of x) (not_beyond o B L q p u z, weak_of_positive (o q r u) (rot_back o B L r u q y), weak_of_positive (o r p u) x))
      where
        up : u ≢ p
        up e = zero_not_positive (o r p p) (zero_second o B L r p) (subst (λ z. pos 0 <ℤ o r p z) e x)

        left_second_of : pos 0 <ℤ o r u q → u ≢ q
        left_second_of g e = zero_not_positive (o r q q) (zero_second o B L r q) (subst (λ z. pos 0 <ℤ o r z q) e g)

        left_first_of : pos 0 <ℤ o r p u → u ≢ r
        left_first_of g = left_first o B L r p u g

    pub quad_turned : (a b c d : ℕ) → Quad n o J a b c d → Quad n o J b a d c
    quad_turned a b c d Q = record { joined = N.back a b Q.joined; left = Q.right; right = Q.left; first = Q.second; second = Q.first }

    pub four_of : (a b c d : ℕ) → Quad n o J a b c d → Four n o a b c d
    four_of a b c d Q = record { left = Q.left.left; right = Q.right.left; first = Q.first; second = Q.second; left_empty = Q.left.empty; right_empty = Q.right.empty }

    -- a segment that crosses the new one ends at b
    ends_at : (a b c d u v : ℕ) → Quad n o J a b c d → J u v → Over o c d u v → v ≡ b
    ends_at a b c d u v Q h x =
        end_after n o B L a b c d u v (four_of a b c d Q) (N.within v u (N.back u v h)) x
        (λ e. e)
        (λ g. absurd (N.plane b d u v Q.right.first h g))
        (λ g. absurd (N.plane c b u v (N.back b c Q.left.second) h g))
        (λ g. absurd (N.clear u v h b (N.within b a (N.back a b Q.joined)) g))

    -- the new segment crosses no other one
    pub alone_after : (a b c d u v : ℕ) → Quad n o J a b c d → J u v → Over o c d u v → (u ≡ a) × (v ≡ b)
    alone_after a b c d u v Q h x = (
      ends_at b a d c v u (quad_turned a b c d Q) (N.back u v h) (over_back o c d u v x),
      ends_at a b c d u v Q h x,
    )

    -- a clear segment that crosses one segment alone ends at that segment's apex
    pub reaches_apex : (a b u v : ℕ) → J a b → u < n → v < n → ((k : ℕ) → k < n → ¬ B k u v) → Over o a b u v
        → ((i j : ℕ) → J i j → Over o i j u v → AreEnds a b i j) → Apex n o J a b v
    reaches_apex a b u v h un vn clear x alone =
        let (c, A) = N.apex a b v h vn x.end in
        let ca : c ≢ a = left_first o B L a b c A.left in
        let cb : c ≢ b = left_second o B L a b c A.left in
        let e : v ≡ c =
        exit o B L a b c u v A.left x
        (λ g. same_or v c (λ e. e)
        (λ ne. absurd (A.empty v vn (left_first o B L a b v x.end) (left_second o B L a b v x.end) ne g)))
        (λ g. absurd (elim (alone c b (N.back b c A.second) g) [ inl w ↦ ca w.0 | inr w ↦ cb w.0 ]))
        (λ g. absurd (elim (alone a c A.first g) [ inl w ↦ cb w.1 | inr w ↦ ca w.1 ]))
        (λ g. absurd (clear c A.within g)) in
        subst (λ z. Apex n o J a b z) (sym e) A

    pub quad_of : (a b u v : ℕ) → J a b → u < n → v < n → ((k : ℕ) → k < n → ¬ B k u v) → ((k : ℕ) → k < n → ¬ B k v u) → Over o a b u v
        → ((i j : ℕ) → J i j → Over o i j u v → AreEnds a b i j) → Quad n o J a b v u
    quad_of a b u v h un vn clear back x alone = record {
      joined = h;
      left = reaches_apex a b u v h un vn clear x alone;
      right = reaches_apex b a v u (N.back a b h) vn un back (over_back o a b u v x)
          (λ i j k y. ends_turned a b i j (ends_swapped a b j i (alone j i (N.back i j k) (over_back o i j v u y))));
      first = x.first;
      second = x.second;
    }

    module _ (K : ℕ → ℕ → Type 0) (a b c d : ℕ) (Q : Quad n o J a b c d) (F : Flipped J K a b c d) where
      a_side : (p : ℕ) → p ≢ a → p ≢ b → (i : ℕ) → ¬ AreEnds a b p i
      a_side p na nb i (inl w) = na w.0
      a_side p na nb i (inr w) = nb w.0

      b_side : (p : ℕ) → p ≢ a → p ≢ b → (i : ℕ) → ¬ AreEnds a b i p
      b_side p na nb i h = a_side p na nb i (ends_swapped a b i p h)

      ca : c ≢ a
      ca = left_first o B L a b c Q.left.left

      cb : c ≢ b
      cb = left_second o B L a b c Q.left.left

      da : d ≢ a
      da = left_second o B L b a d Q.right.left

      db : d ≢ b
      db = left_first o B L b a d Q.right.left

      -- the three sides of the new triangle c d b
      new_apex : Apex n o K c d b
      new_apex = record {
        within = N.within b a (N.back a b Q.joined);
        first = F.old c b (N.back b c Q.left.second) (a_side c ca cb b);
        second = F.old d b (N.back b d Q.right.first) (a_side d da db b);
        left = Q.second;
        empty = empty_after n o B L a b c d (four_of a b c d Q);
      }

      flipped_back : (i j : ℕ) → K i j → K j i
      flipped_back i j h = elim (F.only i j h) [
        | inl w ↦ F.old j i (N.back i j w.0) (λ e. w.1 (ends_swapped a b j i e))
        | inr w ↦ F.new j i (ends_swapped c d i j w)
      ]

      -- d to b has the apex c, and b to c the apex d
      pub second_side : Apex n o K d b c
      second_side = apex_next K c d b flipped_back Q.left.within (F.new c d (inl (refl, refl))) new_apex

      pub third_side : Apex n o K b c d
      third_side = apex_next K d b c flipped_back Q.right.within new_apex.second second_side

      pub first_side : Apex n o K c d b
      first_side = new_apex

    module _ (K : ℕ → ℕ → Type 0) (a b c d : ℕ) (Q : Quad n o J a b c d) (F : Flipped J K a b c d) where
      turned : Quad n o J b a d c
      turned = quad_turned a b c d Q

      turned_flip : Flipped J K b a d c
      turned_flip = flipped_turned J K a b c d F

      put : (p q p2 q2 r : ℕ) → p ≡ p2 → q ≡ q2 → Apex n o K p2 q2 r → Apex n o K p q r
      put p q p2 q2 r e f h = subst (λ x. Apex n o K x q r) (sym e) (subst (λ y. Apex n o K p2 y r) (sym f) h)

      -- each side of a flipped set has its apex
      apex_after : (p q s : ℕ) → J p q → ¬ AreEnds a b p q → s < n → pos 0 <ℤ o p q s → (r : ℕ) × Apex n o K p q r
      apex_after p q s h not sn left =
          let (r, A) = N.apex p q s h sn left in
          ends_or a b p r
          (λ e f. (let A2 : Apex n o J a q b = subst (λ x. Apex n o J x q b) e (subst (λ y. Apex n o J p q y) f A) in
          let Aq : Apex n o J b a q = last_apex a q b (subst (λ x. J x q) e h) A2 in
          let k : q ≡ d = apex_once b a q d Aq Q.right in
          (c, put p q a d c e k (third_side K b a d c turned turned_flip))))
          (λ e f. (let A2 : Apex n o J b q a = subst (λ x. Apex n o J x q a) e (subst (λ y. Apex n o J p q y) f A) in
          let Aq : Apex n o J a b q = last_apex b q a (subst (λ x. J x q) e h) A2 in
          let k : q ≡ c = apex_once a b q c Aq Q.left in
          (d, put p q b c d e k (third_side K a b c d Q F))))
          (λ nf. ends_or a b q r
          (λ e f. (let A2 : Apex n o J p a b = subst (λ x. Apex n o J p x b) e (subst (λ y. Apex n o J p q y) f A) in
          let Aq : Apex n o J a b p = next_apex p a b (subst (λ x. J p x) e h) A2 in
          let k : p ≡ c = apex_once a b p c Aq Q.left in
          (d, put p q c a d k e (second_side K b a d c turned turned_flip))))
          (λ e f. (let A2 : Apex n o J p b a = subst (λ x. Apex n o J p x a) e (subst (λ y. Apex n o J p q y) f A) in
          let Aq : Apex n o J b a p = next_apex p b a (subst (λ x. J p x) e h) A2 in
          let k : p ≡ d = apex_once b a p d Aq Q.right in
          (c, put p q d b c k e (second_side K a b c d Q F))))
          (λ ns. (
            r,
            record {
              within = A.within;
              first = F.old p r A.first nf;
              second = F.old q r A.second ns;
              left = A.left;
              empty = A.empty;
            },
          )))

      cross_new : (i j k l : ℕ) → AreEnds c d i j → J k l → ¬ AreEnds a b k l → ¬ Over o i j k l
      cross_new i j k l (inl w) h not x =
          let y : Over o c d k l = subst (λ z. Over o z d k l) w.0 (subst (λ z. Over o i z k l) w.1 x) in
          not (inl (alone_after a b c d k l Q h y))
      cross_new i j k l (inr w) h not x =
          let y : Over o d c k l = subst (λ z. Over o z c k l) w.0 (subst (λ z. Over o i z k l) w.1 x) in
          not (inr (alone_after b a d c k l turned h y))

      -- a segment doesn't cross itself
      own : (p q u v : ℕ) → AreEnds u v p q → ¬ Over o p q u v
      own p q u v (inl w) x = zero_not_positive (o u v u) (zero_first o B L u v) (subst (λ y. pos 0 <ℤ o u v y) w.0 x.first)
      own p q u v (inr w) x = zero_not_positive (o u v v) (zero_second o B L u v) (subst (λ y. pos 0 <ℤ o u v y) w.0 x.first)

      both : (p q u v : ℕ) → AreEnds c d p q → AreEnds c d u v → AreEnds u v p q
      both p q u v (inl w) (inl z) = inl (w.0 ∙ sym z.0, w.1 ∙ sym z.1)
      both p q u v (inl w) (inr z) = inr (w.0 ∙ sym z.1, w.1 ∙ sym z.0)
      both p q u v (inr w) (inl z) = inr (w.0 ∙ sym z.1, w.1 ∙ sym z.0)
      both p q u v (inr w) (inr z) = inl (w.0 ∙ sym z.0, w.1 ∙ sym z.1)

      plane_after : (i j k l : ℕ) → (J i j × ¬ AreEnds a b i j) ⊎ AreEnds c d i j → (J k l × ¬ AreEnds a b k l) ⊎ AreEnds c d k l → ¬ Over o i j k l
      plane_after i j k l (inl h) (inl g) x = N.plane i j k l h.0 g.0 x
      plane_after i j k l (inl h) (inr g) x = cross_new k l j i g (N.back i j h.0) (λ e. h.1 (ends_swapped a b j i e)) (over_turned o i j k l x)
      plane_after i j k l (inr h) (inl g) x = cross_new i j k l h g.0 g.1 x
      plane_after i j k l (inr h) (inr g) x = own i j k l (both i j k l h g) x

      clear_both : (i j : ℕ) → (J i j × ¬ AreEnds a b i j) ⊎ AreEnds c d i j → (k : ℕ) → k < n → ¬ B k i j
      clear_both i j (inl h) k kn x = N.clear i j h.0 k kn x
      clear_both i j (inr (inl h)) k kn x = clear_after n o B L a b c d (four_of a b c d Q) k kn (subst (λ z. B k z d) h.0 (subst (λ z. B k i z) h.1 x))
      clear_both i j (inr (inr h)) k kn x = clear_after n o B L b a d c (four_of b a d c turned) k kn (subst (λ z. B k z c) h.0 (subst (λ z. B k i z) h.1 x))

      border_stays : (i j : ℕ) → AllLeft n o i j → ¬ AreEnds a b i j
      border_stays i j left (inl h) =
          apart (o b a d) (o a b d) (L.swap a b d) Q.right.left (subst (λ z. pos 0 ≤ℤ o z b d) h.0 (subst (λ z. pos 0 ≤ℤ o i z d) h.1 (left d Q.right.within)))
      border_stays i j left (inr h) =
          apart (o a b c) (o b a c) (L.swap b a c) Q.left.left (subst (λ z. pos 0 ≤ℤ o z a c) h.0 (subst (λ z. pos 0 ≤ℤ o i z c) h.1 (left c Q.left.within)))

      met_after : (i : ℕ) → i < n → (j : ℕ) × K i j
      met_after i hi =
          let (j, h) = N.met i hi in
          ends_or a b i j
          (λ e f. (c, subst (λ x. K x c) (sym e) (flipped_back K a b c d Q F c a (F.old c a (N.back a c Q.left.first) (a_side K a b c d Q F c (ca K a b c d Q F) (cb K a b c d Q F) a)))))
          (λ e f. (c, subst (λ x. K x c) (sym e) (flipped_back K a b c d Q F c b (F.old c b (N.back b c Q.left.second) (a_side K a b c d Q F c (ca K a b c d Q F) (cb K a b c d Q F) b)))))
          (λ g. (j, F.old i j h g))

      any_apex : (i j s : ℕ) → (J i j × ¬ AreEnds a b i j) ⊎ AreEnds c d i j → s < n → pos 0 <ℤ o i j s → (r : ℕ) × Apex n o K i j r
      any_apex i j s (inl h) sn left = apex_after i j s h.0 h.1 sn left
      any_apex i j s (inr (inl h)) sn left = (b, put i j c d b h.0 h.1 (first_side K a b c d Q F))
      any_apex i j s (inr (inr h)) sn left = (a, put i j d c a h.0 h.1 (first_side K b a d c turned turned_flip))

      -- the set after the flip is a triangulation
      pub net_after : Net n o B K
      net_after = record {
        within = λ i j h. elim (F.only i j h) [ inl w ↦ N.within i j w.0 | inr w ↦ elim w [ inl z ↦ subst (λ x. x < n) (sym z.0) Q.left.within | inr z ↦ subst (λ x. x < n) (sym z.0) Q.right.within ] ];
        back = flipped_back K a b c d Q F;
        clear = λ i j h k kn. clear_both i j (F.only i j h) k kn;
        plane = λ i j k l h g x. plane_after i j k l (F.only i j h) (F.only k l g) x;
        border = λ i j hi hj ne clear left. F.old i j (N.border i j hi hj ne clear left) (border_stays i j left);
        met = met_after;
        apex = λ i j s h sn left. any_apex i j s (F.only i j h) sn left;
      }
