use Rattle.std.proofs.Common.{◌∷◌, ap, ◌∙◌}
use Rattle.ix_wire.specs.Command.{words_after}
use Rattle.ix_wire.proofs.CommandLaws.{command_of_many}
use Rattle.ix_wire.proofs.command.command_of.Goals as goal

pub returns-in-Some-rest-2-clause-command : goal.returns-in-Some-rest-2-clause-command
returns-in-Some-rest-2-clause-command c =
    command_of_many c.args.begun c.args.version c.args.line.now c.split_word.result.0.now c.split_word-2.result.0.now c.split_word-3.result.0.now
    c.in-Some-rest-2.field-0.now _ _
    c.split_word.ensures (ap words_after c.in-Some.is ∙ c.split_word-2.ensures)
    (ap words_after c.in-Some-rest.is ∙ c.split_word-3.ensures ∙ ap (λ o. c.split_word-3.result.0.now ∷ words_after o) c.in-Some-rest-2.is)
