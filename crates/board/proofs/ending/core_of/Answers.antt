use Rattle.journal_defs.specs.Journal.{replay}
use Rattle.board.proofs.Cores.{stars_agree, layers_are}
use Rattle.board.proofs.ending.core_of.Goals as goal

pub from_stars-all-requires : goal.from_stars-all-requires
from_stars-all-requires c = (
  (replay c.args.root.start.items c.args.journal.items).all,
  (replay c.args.root.start.items c.args.journal.items).kept,
  stars_agree c.args.root c.args.journal.items c.args.stars.items c.requires.base c.requires.legal c.requires.stars,
)

pub from_parts-requires-clause-all : goal.from_parts-requires-clause-all
from_parts-requires-clause-all c =
    (layers_are c.args.root c.args.journal.items c.from_stars-all.result c.requires.base c.requires.legal c.from_stars-all.ensures.subdivision
    (c.from_stars-all.ensures.same (replay c.args.root.start.items c.args.journal.items).all (replay c.args.root.start.items c.args.journal.items).kept
    (stars_agree c.args.root c.args.journal.items c.args.stars.items c.requires.base c.requires.legal c.requires.stars))).0

pub from_parts-requires-clause-kept : goal.from_parts-requires-clause-kept
from_parts-requires-clause-kept c =
    (layers_are c.args.root c.args.journal.items c.from_stars-all.result c.requires.base c.requires.legal c.from_stars-all.ensures.subdivision
    (c.from_stars-all.ensures.same (replay c.args.root.start.items c.args.journal.items).all (replay c.args.root.start.items c.args.journal.items).kept
    (stars_agree c.args.root c.args.journal.items c.args.stars.items c.requires.base c.requires.legal c.requires.stars))).1
