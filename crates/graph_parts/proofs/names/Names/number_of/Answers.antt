use Rattle.std.proofs.Common.{is_some, ap, ◌∙◌}
use Rattle.graph_parts.proofs.NamesByKeys.{number-known, number_of-keys}
use Rattle.graph_parts.proofs.names.Names.number_of.Goals as goal

pub returns-clause-number : goal.returns-clause-number
returns-clause-number c = c.get_index_of.ensures.index ∙ number_of-keys c.args.name.now c.self.inside.names.keys c.args.self.now c.self.view_is

pub returns-clause-known : goal.returns-clause-known
returns-clause-known c =
    ap is_some (c.get_index_of.ensures.index ∙ number_of-keys c.args.name.now c.self.inside.names.keys c.args.self.now c.self.view_is)
    ∙ number-known c.args.self.now c.args.name.now
