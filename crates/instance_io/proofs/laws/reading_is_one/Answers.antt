use Rattle.text_defs.specs.Instances.{instance_from}
use Rattle.instance_io.proofs.laws.Readings.{read_once}
use Rattle.instance_io.proofs.laws.reading_is_one.Goals as goal

pub returns : goal.returns
returns c text one other h k = read_once (instance_from text) one other h k
