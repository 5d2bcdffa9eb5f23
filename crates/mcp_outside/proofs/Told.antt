-- Bytes that a source has left and that a sink holds, over several calls.
use Rattle.std.proofs.Common.{◌≡◌, ℕ, ◌+◌, ◌-◌, ◌≤◌, List, ◌++◌, length, take, drop, refl, sym, ◌∙◌, ap, subst, arith, length-append, length-drop, Some, None, Result, Ok, Err, IfSome, IfErr, IsErrOf}
use Rattle.std.proofs.lemmas.List.{take_all}
use Rattle.std.proofs.Math.Seq.{take-add, drop-append_seam}
use Rattle.std.specs.declared.option.Option.{Option}
use Rattle.std.specs.Io.KnownBytes.{Consumes, Appends}
use Rattle.std.proofs.KnownBytes.{Appends-trans, Consumes-trans}
use Rattle.mcp_outside.specs.Bytes.{Took}
use Rattle.mcp_outside.specs.Readings.{TakesCount, EndsAfter}
use Rattle.mcp_outside.specs.declared.ends.ReadEnd.{ReadEnd}
use Rattle.mcp_outside.specs.declared.ends.ReadEnd.TheVariants.{Failed, TooLong, NoMemory}

-- n bytes more after some
takes_later : (a b c : Option (List ℕ)) (bs : List ℕ) (m n : ℕ) → Consumes a b bs → length bs + m ≡ n → TakesCount b c m → TakesCount a c n
takes_later a b c bs m n p sum more =
    (bs ++ more.0, omega (arith, length-append bs more.0, more.1, sum), Consumes-trans a b c bs more.0 p more.2)

-- an end after some bytes were taken before, each call a byte
pub ends_later : (a b c : Option (List ℕ)) (bs : List ℕ) (spare limit before middle after : ℕ) (e : ReadEnd) → Consumes a b bs → length bs + spare ≡ limit → middle ≤ before + length bs → EndsAfter spare (middle, after) b c e → EndsAfter limit (before, after) a c e
ends_later a b c bs spare limit before middle after Failed p sum few ends = tt
ends_later a b c bs spare limit before middle after TooLong p sum few ends = takes_later a b c bs (spare + 1) (limit + 1) p (omega arith) ends
ends_later a b c bs spare limit before middle after NoMemory p sum few ends =
    (length bs + ends.0, omega (arith, ends.1, sum), omega (arith, ends.2, few), takes_later a b c bs ends.0 (length bs + ends.0) p refl ends.3)

-- bytes that were taken from the front are the first ones
took_first : (xs : List ℕ) (new : Option (List ℕ)) (n : ℕ) → TakesCount (Some xs) new n → Took n xs new
took_first xs None n h = absurd h.2
took_first xs (Some ys) n (bytes, len, split) =
    let drop_is : drop n xs ≡ ys = ap (λ k. drop k xs) (sym len) ∙ ap (drop (length bytes)) split ∙ drop-append_seam bytes ys in
    (omega (arith, ap length split, length-append bytes ys, len), ap Some (sym drop_is))

-- what was taken where no memory was found, each call but the last a byte
pub took_before : {T : Type 0} (r : Result T ReadEnd) (limit before after : ℕ) (old new : Option (List ℕ)) → IfErr r (EndsAfter limit (before, after) old new) → IfSome old (λ xs. IsErrOf r NoMemory → (n : ℕ) × (n ≤ limit) × Took n xs new × (after ≤ before + n + 1))
took_before r limit before after None new h = tt
took_before (Ok x) limit before after (Some xs) new h = λ e. absurd (cc)
took_before (Err Failed) limit before after (Some xs) new h = λ e. absurd (cc)
took_before (Err TooLong) limit before after (Some xs) new h = λ e. absurd (cc)
took_before (Err NoMemory) limit before after (Some xs) new (n, le, few, took) = λ e. (n, le, took_first xs new n took, few)

-- the rest of some bytes, as a slice of them
rest_is : (bytes : List ℕ) (w : ℕ) → take (length bytes - w) (drop w bytes) ≡ drop w bytes
rest_is bytes w = take_all (length bytes - w) (drop w bytes) (omega (arith, length-drop w bytes))

pub still_within : (bytes : List ℕ) (w k : ℕ) → w ≤ length bytes → k ≤ length (take (length bytes - w) (drop w bytes)) → w + k ≤ length bytes
still_within bytes w k le more = omega (arith, le, more, ap length (rest_is bytes w), length-drop w bytes)

-- what a sink was given in two pieces
pub given_more : (a b c : Option (List ℕ)) (bytes : List ℕ) (w k : ℕ) → Appends a b (take w bytes) → Appends b c (take k (take (length bytes - w) (drop w bytes))) → Appends a c (take (w + k) bytes)
given_more a b c bytes w k p q =
    let piece : take w bytes ++ take k (take (length bytes - w) (drop w bytes)) ≡ take (w + k) bytes =
    ap (λ l. take w bytes ++ take k l) (rest_is bytes w) ∙ sym (take-add w k bytes) in
    subst (Appends a c) piece (Appends-trans a b c _ _ p q)
