-- A plan that is handed in once more.
use Rattle.std.proofs.Common.{◌≡◌, ℕ, ◌<◌, Bool, true, false, List, [], ◌∷◌, ◌++◌, length, map, inl, inr, arith, sym, ◌∙◌, ap, ap₂, subst, refl, Result, Ok, Err, IfOk}
use Rattle.std.specs.List.{AllByRecursion}
use Rattle.journal_defs.specs.declared.edit.Edit.{Edit}
use Rattle.journal_defs.specs.declared.edit.Claim.{Claim}
use Rattle.journal_defs.specs.declared.commit.Commit.{Commit}
use Rattle.journal_defs.specs.Journal.{last}
use Rattle.edit.specs.Plans.{Planned}
use Rattle.hands.specs.Answers.{claimed}
use Rattle.round_defs.specs.Handed.{refreshed, IsTried, IsTriedTwice}
use Rattle.round_defs.proofs.laws.Fresh.{not_both}
use Rattle.seats.specs.Ground.{Ground}
use Rattle.seats.specs.Seats.{SeatSeen}
use Rattle.board.specs.Answers.{AreWithin}
use Rattle.board.specs.Looks.{AreBetween, IsRefreshed}
use Rattle.search_worker.specs.declared.handing.Tried.{Tried}
use Rattle.search_worker.specs.declared.handing.Tried.TheVariants.{Made, Old, GivenUp}
use Rattle.search_worker.specs.Handing.{IsAlone, IsAnswered, IsTriedOnce, HasMade}
use Rattle.search_worker.proofs.Refused.{grown_alone}

-- what handing in once makes of the journal
pub answered_tried : (g : Ground) (p : Planned) (old new : SeatSeen) (t : Tried) → IsAnswered g p old new t → IsTried g.points g.start old.seen p new.seen
answered_tried g p old new Made h = inl h
answered_tried g p old new (Old q) h = inr (λ taken. not_both old.seen p.claims h.0 taken.0, h.1)
answered_tried g p old new GivenUp h = inr (h.1, h.2)

-- where a plan that isn't stale is handed in, that is all
pub once_made : (g : Ground) (p : Planned) (old new : SeatSeen) → IsAnswered g p old new Made → IsTriedTwice g.points g.start old.seen p new.seen
once_made g p old new h = inl (λ stale. not_both old.seen p.claims stale h.0.0, inl h)

pub once_given_up : (g : Ground) (p : Planned) (old new : SeatSeen) → IsAnswered g p old new GivenUp → IsTriedTwice g.points g.start old.seen p new.seen
once_given_up g p old new h = inl (h.0, inr (h.1, h.2))

-- a refreshed plan where nothing else is seen meanwhile
claims_are : (J : List Commit) (xs ys : List Claim) → claimed xs ≡ claimed ys → AreBetween J J xs → xs ≡ map (λ (c : Claim). record { vertex = c.vertex; stamp = last J c.vertex }) ys
claims_are J [] [] e h = refl
claims_are J [] (y ∷ ys) e h = absurd (let z : [] ≡ claimed (y ∷ ys) = e in cc)
claims_are J (x ∷ xs) [] e h = absurd (let z : claimed (x ∷ xs) ≡ [] = e in cc)
claims_are J (x ∷ xs) (y ∷ ys) e h =
    let heads : x.vertex ≡ y.vertex = cc in
    let tails : claimed xs ≡ claimed ys = cc in
    let low = h.0.0 in let high = h.0.1 in
    let stamp : x.stamp ≡ last J x.vertex = omega (arith, low, high) in
    let F : ℕ → ℕ → Claim = λ v s. record { vertex = v; stamp = s } in
    let first : x ≡ F y.vertex (last J y.vertex) = ap₂ F heads (stamp ∙ ap (last J) heads) in
    ap₂ (λ (c : Claim) (cs : List Claim). c ∷ cs) first (claims_are J xs ys tails h.1)

pub refreshed_is : (g : Ground) (old mid : SeatSeen) (p f : Planned) → IsRefreshed g old mid p f → g.callers ≡ 1 → f ≡ refreshed old.seen p
refreshed_is g old mid p f h alone =
    let same : mid.seen ≡ old.seen = grown_alone g old.caller [] old.seen mid.seen h.left.grown alone in
    let P : List Commit → Type 0 = λ J. AreBetween old.seen J f.claims in
    let F : List Edit → List Claim → Planned = λ es cs. record { edits = es; claims = cs } in
    ap₂ F h.edits (claims_are old.seen f.claims p.claims h.vertices (subst P same h.stamps))

pub fresh_within : (g : Ground) (old mid : SeatSeen) (p f : Planned) → IsRefreshed g old mid p f → AreWithin g p.claims → AreWithin g f.claims
fresh_within g old mid p f h within = subst (λ (vs : List ℕ). AllByRecursion (λ (v : ℕ). v < length g.points) vs) (sym h.vertices) within

-- a commit made after a moment at which nothing was made
pub made_after : (es fs : List Edit) (old mid new : SeatSeen) (b : Bool) → fs ≡ es → mid.mine ≡ old.mine → HasMade fs mid new b → HasMade es old new b
made_after es fs old mid new true e same (c, edits, is) = (c, edits ∙ e, is ∙ ap (λ (x : List Commit). x ++ c ∷ []) same)
made_after es fs old mid new false e same h = h ∙ same

-- the last try, of a plan that was refreshed
pub again_tried : (g : Ground) (old mid new : SeatSeen) (p f : Planned) → IsRefreshed g old mid p f → IsAlone g old
    → (IsAlone g mid → IsTried g.points g.start mid.seen f new.seen) → IsTried g.points g.start old.seen (refreshed old.seen p) new.seen
again_tried g old mid new p f h alone tried =
    let same : mid.seen ≡ old.seen = grown_alone g old.caller [] old.seen mid.seen h.left.grown alone.0 in
    let there : IsAlone g mid = (alone.0, subst (λ (J : List Commit). length J < g.room) (sym same) alone.1) in
    let P : List Commit → Type 0 = λ J. IsTried g.points g.start J f new.seen in
    let Q : Planned → Type 0 = λ x. IsTried g.points g.start old.seen x new.seen in
    subst Q (refreshed_is g old mid p f h alone.0) (subst P same (tried there))

-- the two tries of a stale plan
pub twice_tried : (g : Ground) (old mid new : SeatSeen) (p q : Planned) → IsTriedOnce g p old mid (Old q) → IsAlone g old
    → (IsAlone g mid → IsTried g.points g.start mid.seen (refreshed mid.seen q) new.seen) → IsTriedTwice g.points g.start old.seen p new.seen
twice_tried g old mid new p q once alone again =
    let said = once.alone alone in
    let same : mid.seen ≡ old.seen = said.1 in
    let there : IsAlone g mid = (alone.0, subst (λ (J : List Commit). length J < g.room) (sym same) alone.1) in
    let back : q ≡ p = once.back in
    let P : List Commit → Type 0 = λ J. IsTried g.points g.start J (refreshed J q) new.seen in
    let Q : Planned → Type 0 = λ x. IsTried g.points g.start old.seen (refreshed old.seen x) new.seen in
    inr (said.0, subst Q back (subst P same (again there)))

-- a clause of what is fine, from another
pub on_ok : {X E : Type 0} (r : Result X E) (P Q : X → Type 0) → ((x : X) → P x → Q x) → IfOk r P → IfOk r Q
on_ok (Ok x) P Q f h = f x h
on_ok (Err e) P Q f h = tt
