-- What a call's answer says of each of its cases.
use Rattle.std.proofs.Common.{Result, Ok, Err, OnOk, OnErr, IsOk, IfOk, IfErr, MatchResult, ◌↔◌, refl}

pub on_ok : {A E P : Type 0} → (r : Result A E) → IsOk r ↔ P → OnOk r P
on_ok (Ok x) h = h.0 refl
on_ok (Err e) h = tt

pub if_err : {A E : Type 0} → (P : A → Type 0) (Q R : E → Type 0) → (r : Result A E) → MatchResult r P Q → ((e : E) → Q e → R e) → IfErr r R
if_err P Q R (Ok x) h f = tt
if_err P Q R (Err e) h f = f e h

pub on_err : {A E P : Type 0} → (r : Result A E) → P → OnErr r P
on_err (Ok x) p = tt
on_err (Err e) p = p

pub ok_to : {A E P Q : Type 0} → (r : Result A E) → OnOk r P → (P → Q) → OnOk r Q
ok_to (Ok x) h f = f h
ok_to (Err e) h f = tt

pub if_ok : {A E : Type 0} → (P Q : A → Type 0) → (r : Result A E) → IfOk r P → ((x : A) → P x → Q x) → IfOk r Q
if_ok P Q (Ok x) h f = f x h
if_ok P Q (Err e) h f = tt
