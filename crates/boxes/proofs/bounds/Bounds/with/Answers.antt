use Rattle.boxes.proofs.Growing.{corners_near, has_added, has_kept}
use Rattle.boxes.proofs.bounds.Bounds.with.Goals as goal

pub returns-clause-near : goal.returns-clause-near
returns-clause-near c = corners_near c.args.self.now _ c.args.p c.lower_left.ensures c.upper_right.ensures c.requires.near c.requires.near_p

pub returns-clause-has : goal.returns-clause-has
returns-clause-has c = has_added c.args.self.now _ c.args.p c.lower_left.ensures c.upper_right.ensures

pub returns-clause-kept : goal.returns-clause-kept
returns-clause-kept c = λ q h. has_kept c.args.self.now _ c.args.p q c.lower_left.ensures c.upper_right.ensures h
