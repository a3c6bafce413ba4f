-- Names that all differ, group by group.
use Rattle.stx_names.proofs.DuplicateLaws.{all_differ}
use Rattle.stx_draft.proofs.draft.numbered.Goals as goal

pub declared-requires : goal.declared-requires
declared-requires c = (all_differ c.args.named.now c.requires).events

pub declared-requires-2 : goal.declared-requires-2
declared-requires-2 c = (all_differ c.args.named.now c.requires).rows

pub declared_classes-requires : goal.declared_classes-requires
declared_classes-requires c = (all_differ c.args.named.now c.requires).classes

pub declared-requires-3 : goal.declared-requires-3
declared-requires-3 c = (all_differ c.args.named.now c.requires).beans

pub declared-requires-4 : goal.declared-requires-4
declared-requires-4 c = (all_differ c.args.named.now c.requires).methods

pub declared-requires-5 : goal.declared-requires-5
declared-requires-5 c = (all_differ c.args.named.now c.requires).syncs
