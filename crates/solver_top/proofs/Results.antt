-- Facts about the value of a result, carried on.
use Rattle.mcp_outside.specs.declared.ends.ReadEnd.{ReadEnd}
use Rattle.mcp_outside.specs.declared.ends.ReadEnd.TheVariants.{Failed, TooLong}
use Rattle.std.proofs.Common.{◌≡◌, Option, Some, None, Result, Ok, Err, IfOk, OnOk, IfSome, subst}

pub if_ok : {A E : Type 0} (r : Result A E) (P Q : A → Type 0) → IfOk r P → ((x : A) → P x → Q x) → IfOk r Q
if_ok (Ok x) P Q h f = f x h
if_ok (Err e) P Q h f = tt

pub if_ok_both : {A E : Type 0} (r : Result A E) (P Q R : A → Type 0) → IfOk r P → IfOk r Q → ((x : A) → P x → Q x → R x) → IfOk r R
if_ok_both (Ok x) P Q R h k f = f x h k
if_ok_both (Err e) P Q R h k f = tt

pub if_ok_three : {A E : Type 0} (r : Result A E) (P R T : A → Type 0) (Q : Type 0) → IfOk r P → OnOk r Q → IfOk r R → ((x : A) → P x → Q → R x → T x) → IfOk r T
if_ok_three (Ok x) P R T Q h k l f = f x h k l
if_ok_three (Err e) P R T Q h k l f = tt

pub if_some_at : {A : Type 0} (o : Option A) (x : A) (P : A → Type 0) → o ≡ Some x → IfSome o P → P x
if_some_at None x P e h = absurd (cc)
if_some_at (Some y) x P e h = let same : y ≡ x = cc in subst P same h

-- a reading that ended past the limit didn't fail
pub long_is_no_fault : {A : Type 0} (r : Result A ReadEnd) → r ≡ Err TooLong → r ≡ Err Failed → ⊥
long_is_no_fault r h k = cc
