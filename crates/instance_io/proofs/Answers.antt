-- How the answer to a text follows from the answer to its value.
use Rattle.std.proofs.Common.{ap, ◌≡◌, List, ℕ, Some, None, Result, Err, refl, sym, subst}
use Rattle.serde_json.specs.Data.{Data}
use Rattle.text_defs.specs.Reading.{json_reading}
use Rattle.text_defs.specs.Instances.{instance_in, instance_from, not_json}
use Rattle.instance_io.specs.declared.instances.Instance.{Instance}
use Rattle.instance_io.specs.declared.instances.InstanceFault.{InstanceFault}
use Rattle.instance_io.specs.declared.instances.InstanceFault.TheVariants.{NotJson, NoName, LongName, NoPoints, BadPoint, NotWhole, MixedIndex, BadIndex, Bad, BadCosts, TooManyCosts, BadCost, NoMemory}
use Rattle.instance_io.specs.Told.{Tells, error}
use Rattle.instance_io.specs.Refusal.{RefusesText, HasFault, IsRead, IsExact}
use Rattle.instance_io.proofs.Exact.{exact_text}

from_read : (bytes : List ℕ) (d : Data) → json_reading bytes ≡ Some d → instance_from bytes ≡ instance_in d
unfolding instance_from
from_read bytes d e = rw e refl

from_refused : (bytes : List ℕ) → json_reading bytes ≡ None → instance_from bytes ≡ Err not_json
unfolding instance_from
from_refused bytes e = rw e refl

pub read_answer : (bytes : List ℕ) (d : Data) (result : Result Instance InstanceFault) → json_reading bytes ≡ Some d → IsRead (instance_in d) result → IsRead (instance_from bytes) result
read_answer bytes d result e h = subst (λ r. IsRead r result) (sym (from_read bytes d e)) h

pub refused_answer : (bytes : List ℕ) (fault : InstanceFault) → RefusesText fault (json_reading bytes) → HasFault (instance_from bytes) fault
refused_answer bytes NotJson h = from_refused bytes h
refused_answer bytes NoName h = absurd h
refused_answer bytes (LongName l) h = absurd h
refused_answer bytes NoPoints h = absurd h
refused_answer bytes (BadPoint k) h = absurd h
refused_answer bytes (NotWhole k) h = absurd h
refused_answer bytes (MixedIndex k) h = absurd h
refused_answer bytes (BadIndex k) h = absurd h
refused_answer bytes (Bad b) h = absurd h
refused_answer bytes BadCosts h = absurd h
refused_answer bytes (TooManyCosts k) h = absurd h
refused_answer bytes (BadCost k) h = absurd h
refused_answer bytes NoMemory h = tt

pub read_exact : (bytes : List ℕ) (d : Data) (result : Result Instance InstanceFault) → json_reading bytes ≡ Some d → IsExact (instance_in d) result → IsExact (instance_from bytes) result
read_exact bytes d result e h = subst (λ r. IsExact r result) (sym (from_read bytes d e)) h

refused_tells : (bytes : List ℕ) (fault : InstanceFault) → RefusesText fault (json_reading bytes) → Tells fault (error (instance_from bytes))
refused_tells bytes NotJson h = ap error (from_refused bytes h)
refused_tells bytes NoName h = absurd h
refused_tells bytes (LongName l) h = absurd h
refused_tells bytes NoPoints h = absurd h
refused_tells bytes (BadPoint k) h = absurd h
refused_tells bytes (NotWhole k) h = absurd h
refused_tells bytes (MixedIndex k) h = absurd h
refused_tells bytes (BadIndex k) h = absurd h
refused_tells bytes (Bad b) h = absurd h
refused_tells bytes BadCosts h = absurd h
refused_tells bytes (TooManyCosts k) h = absurd h
refused_tells bytes (BadCost k) h = absurd h
refused_tells bytes NoMemory h = tt

pub refused_exact : (bytes : List ℕ) (fault : InstanceFault) → RefusesText fault (json_reading bytes) → IsExact (instance_from bytes) (Err fault)
refused_exact bytes fault h = exact_text (instance_from bytes) fault (refused_tells bytes fault h)
