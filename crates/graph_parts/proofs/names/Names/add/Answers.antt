use Rattle.std.proofs.Common.{not, string_bytes, ap, ◌∙◌}
use Rattle.text_model.specs.Names.{is_among}
use Rattle.graph_parts.proofs.NamesByKeys.{is_among-keys}
use Rattle.graph_parts.proofs.names.Names.add.Goals as goal

pub returns-clause-new : goal.returns-clause-new
returns-clause-new c =
    let seen = is_among-keys (string_bytes c.in_ok-name.name) c.self.inside.names.keys c.args.self.now c.self.view_is in
    c.in_ok-is_new.ensures.added ∙ ap not (seen ∙ ap (is_among c.args.self.now) c.in_ok-name.ensures.ok)
