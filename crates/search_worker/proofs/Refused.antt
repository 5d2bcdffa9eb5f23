-- What an answer of a commit says of the plan that was handed in.
use Rattle.std.proofs.Common.{◌≡◌, ℕ, zero, suc, ◌+◌, ◌<◌, List, [], ◌∷◌, ◌++◌, take, length, get_or, inl, inr, arith, sym, ◌∙◌, ap, subst, refl, append-nil}
use Rattle.plane.specs.declared.coordinates.Point.{Point}
use Rattle.journal_defs.specs.declared.edit.Edit.{Edit}
use Rattle.journal_defs.specs.declared.edit.Claim.{Claim}
use Rattle.journal_defs.specs.declared.commit.Commit.{Commit}
use Rattle.journal_defs.specs.Edits.{State, after, IsLegal}
use Rattle.journal_defs.specs.Journal.{replay, last, AreLegal, after_all, made}
use Rattle.journal_defs.specs.Weave.{next_commit}
use Rattle.hands.specs.declared.refusal.Refusal.{Refusal}
use Rattle.hands.specs.declared.refusal.Refusal.TheVariants.{Busy, Stale, Ahead, NoMemory, Illegal, Full}
use Rattle.hands.specs.Answers.{IsFresh, IsFirstStale}
use Rattle.edit.specs.Plans.{Planned}
use Rattle.round_defs.specs.Handed.{AreFresh, IsStale, IsTaken}
use Rattle.round_defs.proofs.laws.Fresh.{not_both}
use Rattle.seats.specs.Ground.{Ground, Grown}
use Rattle.seats.specs.Seats.{SeatSeen}
use Rattle.board.specs.Answers.{IsLeft, IsEarly, IsLate, IsRefused, IsEntered, IsNotBusy, next_of}
use Rattle.search_worker.specs.declared.handing.Tried.{Tried}
use Rattle.search_worker.specs.declared.handing.Tried.TheVariants.{Made, Old, GivenUp}
use Rattle.search_worker.specs.Handing.{IsOutcome, IsAlone, IsTriedOnce}

-- the first claim that isn't fresh is old, or it is ahead
stale_is : (J : List Commit) (claims : List Claim) (k : ℕ) (c : Claim) → IsFirstStale J claims k c → c.stamp < last J c.vertex → IsStale J claims
stale_is J [] k c h old = absurd (let w = h.within in omega (arith, w))
stale_is J (d ∷ ds) zero c h old = let e : d ≡ c = h.at in inl (subst (λ (x : Claim). x.stamp < last J x.vertex) (sym e) old)
stale_is J (d ∷ ds) (suc k) c h old =
    inr (h.before.0, stale_is J ds k c (record { within = let w = h.within in omega (arith, w); at = h.at; before = h.before.1; stale = h.stale }) old)

not_stale : (J : List Commit) (claims : List Claim) (k : ℕ) (c : Claim) → IsFirstStale J claims k c → last J c.vertex < c.stamp → ¬ IsStale J claims
not_stale J [] k c h ahead s = s
not_stale J (d ∷ ds) zero c h ahead (inl old) =
    let e : d ≡ c = h.at in let o : c.stamp < last J c.vertex = subst (λ (x : Claim). x.stamp < last J x.vertex) e old in omega (arith, o, ahead)
not_stale J (d ∷ ds) zero c h ahead (inr x) = let e : d ≡ c = h.at in h.stale (subst (λ (x : Claim). IsFresh J x) e x.0)
not_stale J (d ∷ ds) (suc k) c h ahead (inl old) = let f : d.stamp ≡ last J d.vertex = h.before.0 in omega (arith, f, old)
not_stale J (d ∷ ds) (suc k) c h ahead (inr x) =
    not_stale J ds k c (record { within = let w = h.within in omega (arith, w); at = h.at; before = h.before.1; stale = h.stale }) ahead x.1

not_fresh : (J : List Commit) (claims : List Claim) (k : ℕ) (c : Claim) → IsFirstStale J claims k c → ¬ AreFresh J claims
not_fresh J [] k c h f = absurd (let w = h.within in omega (arith, w))
not_fresh J (d ∷ ds) zero c h f = let e : d ≡ c = h.at in h.stale (subst (λ (x : Claim). IsFresh J x) e f.0)
not_fresh J (d ∷ ds) (suc k) c h f =
    not_fresh J ds k c (record { within = let w = h.within in omega (arith, w); at = h.at; before = h.before.1; stale = h.stale }) f.1

-- an edit that isn't legal in its turn
legal_at : (S : List Point) (es : List Edit) (s : State) (k : ℕ) (e : Edit) → AreLegal S s es → k < length es → get_or es k e ≡ e → IsLegal S (after_all (take k es) s) e
legal_at S [] s k e legal h at = absurd (omega (arith, h))
legal_at S (f ∷ es) s zero e legal h at = subst (λ (x : Edit). IsLegal S s x) at legal.0
legal_at S (f ∷ es) s (suc k) e legal h at = legal_at S es (after f s) k e legal.1 (omega (arith, h)) at

-- what is seen stays where the caller works alone
pub grown_alone : (g : Ground) (caller : ℕ) (held : List ℕ) (J L : List Commit) → Grown g caller held J L → g.callers ≡ 1 → L ≡ J
grown_alone g caller held J L h alone = h.is ∙ ap (λ (x : List Commit). J ++ x) (h.alone alone) ∙ append-nil J

-- the plan became a commit
pub entered_once : (g : Ground) (p : Planned) (old new : SeatSeen) (n : ℕ) → (g.callers ≡ 1 → old.caller ≡ 1) → IsEntered g p.edits p.claims old new n → IsTriedOnce g p old new Made
entered_once g p old new n own h = record {
  made = (next_of old p.edits h.before, refl, h.mine);
  back = tt;
  alone = λ a.
      let same : h.before ≡ old.seen = grown_alone g old.caller [] old.seen h.before h.grown a.0 in
      let Q : List Commit → Type 0 = λ J. AreFresh J p.claims in
      let L : List Commit → Type 0 = λ J. AreLegal g.points (replay g.start J) p.edits in
      let F : List Commit → List Commit = λ J. J ++ (let c : Commit = record { caller = old.caller; seq = made old.caller J + 1; edits = p.edits } in c) ∷ [] in
      let G : ℕ → List Commit = λ c. old.seen ++ next_commit old.seen c p.edits ∷ [] in
      ((subst Q same h.passed.fresh, subst L same h.passed.legal), h.seen ∙ ap F same ∙ ap G (own a.0));
}

-- it was refused
given_up : (g : Ground) (p : Planned) (old new : SeatSeen) (t : Tried) → t ≡ GivenUp → IsLeft g old new
    → (IsAlone g old → (new.seen ≡ old.seen) → ¬ IsStale old.seen p.claims × ¬ IsTaken g.points g.start old.seen p) → IsTriedOnce g p old new t
given_up g p old new t is left why =
    let r : IsTriedOnce g p old new GivenUp = record {
      made = left.mine;
      back = tt;
      alone = λ a. let same = grown_alone g old.caller [] old.seen new.seen left.grown a.0 in let w = why a same in (w.0, w.1, same);
    } in subst (λ (x : Tried). IsTriedOnce g p old new x) (sym is) r

refused_early : (g : Ground) (p : Planned) (old new : SeatSeen) (r : Refusal) (t : Tried) → (g.callers ≡ 1 → IsNotBusy r) → IsOutcome p r t → IsEarly g p.edits p.claims old new r → IsTriedOnce g p old new t
refused_early g p old new (Busy place holder) t free is h = given_up g p old new t is h.left (λ a same. absurd (free a.0))
refused_early g p old new (Stale v n) t free is h =
    let (k, c, first, at, num, lt) = h.1 in
    let r : IsTriedOnce g p old new (Old p) = record {
      made = h.0.left.mine;
      back = refl;
      alone = λ a.
          let same = grown_alone g old.caller [] old.seen new.seen h.0.left.grown a.0 in
          let Q : List Commit → Type 0 = λ J. IsStale J p.claims in
          let older : c.stamp < last new.seen c.vertex = subst (λ (x : ℕ). c.stamp < x) (num ∙ ap (last new.seen) (sym at)) lt in
          (subst Q same (stale_is new.seen p.claims k c first older), same);
    } in subst (λ (x : Tried). IsTriedOnce g p old new x) (sym is) r
refused_early g p old new (Ahead v n) t free is h =
    let (k, c, first, at, num, lt) = h.1 in
    given_up g p old new t is h.0.left (λ a same.
    let ahead : last new.seen c.vertex < c.stamp = subst (λ (x : ℕ). x < c.stamp) (num ∙ ap (last new.seen) (sym at)) lt in
    let P : List Commit → Type 0 = λ J. ¬ IsStale J p.claims in
    let Q : List Commit → Type 0 = λ J. ¬ AreFresh J p.claims in
    let stale = subst P same (not_stale new.seen p.claims k c first ahead) in
    let fresh = subst Q same (not_fresh new.seen p.claims k c first) in
    (stale, λ taken. fresh taken.0))
refused_early g p old new NoMemory t free is h = absurd is
refused_early g p old new (Illegal k why) t free is h =
    given_up g p old new t is h.0.left (λ a same.
    let P : List Commit → Type 0 = λ J. AreFresh J p.claims in
    let L : List Commit → Type 0 = λ J. AreLegal g.points (replay g.start J) p.edits in (
      λ stale. not_both old.seen p.claims stale (subst P same h.1),
      λ taken. h.2.illegal (legal_at g.points p.edits (replay g.start new.seen) k h.2.edit (subst L (sym same) taken.1) h.2.within h.2.at),
    ))
refused_early g p old new Full t free is h = absurd h

refused_late : (g : Ground) (p : Planned) (old new : SeatSeen) (r : Refusal) (t : Tried) → (g.callers ≡ 1 → IsNotBusy r) → IsOutcome p r t → IsLate g p.edits p.claims old new r → IsTriedOnce g p old new t
refused_late g p old new (Busy place holder) t free is h = given_up g p old new t is h.left (λ a same. absurd (free a.0))
refused_late g p old new Full t free is h =
    given_up g p old new t is h.left (λ a same.
    absurd (let full = h.room in let less = a.1 in let long : length new.seen ≡ length old.seen = ap length same in omega (arith, full, less, long)))
refused_late g p old new (Stale v n) t free is h = absurd h
refused_late g p old new (Ahead v n) t free is h = absurd h
refused_late g p old new NoMemory t free is h = absurd h
refused_late g p old new (Illegal k why) t free is h = absurd h

pub refused_once : (g : Ground) (p : Planned) (old new : SeatSeen) (r : Refusal) (t : Tried) → (g.callers ≡ 1 → IsNotBusy r) → IsOutcome p r t → IsRefused g p.edits p.claims old new r → IsTriedOnce g p old new t
refused_once g p old new r t free is (inl h) = refused_early g p old new r t free is h
refused_once g p old new r t free is (inr h) = refused_late g p old new r t free is h
