use Rattle.std.proofs.Common.{ap, ◌∙◌}
use Rattle.store.specs.Means.{visible_of}
use Rattle.add.proofs.Added.{add_means_lem}
use Rattle.add.proofs.add_ranges.Goals as goal

pub returns-clause-means : goal.returns-clause-means
returns-clause-means c = ap visible_of c.add_list.ensures ∙ add_means_lem c.args.handle c.args.ranges.now _ _
