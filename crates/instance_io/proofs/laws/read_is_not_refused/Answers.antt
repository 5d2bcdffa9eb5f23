use Rattle.text_defs.specs.Instances.{instance_from}
use Rattle.instance_io.proofs.laws.Readings.{gives_no_fault}
use Rattle.instance_io.proofs.laws.read_is_not_refused.Goals as goal

pub returns : goal.returns
returns c text i fault n ok h f = gives_no_fault (instance_from text) i.name i.points i.costs fault h ok n f
