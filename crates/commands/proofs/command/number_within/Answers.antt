use Rattle.std.proofs.Common.{◌∙◌, sym, rules, arith}
use Rattle.commands.proofs.Decimals.{refused_is_outside}
use Rattle.commands.proofs.command.number_within.Goals as goal

pub returns-in_err-number-clause-value : goal.returns-in_err-number-clause-value
returns-in_err-number-clause-value c =
    c.from_residual.ensures ∙ sym (refused_is_outside c.args.least c.args.most c.args.word.now c.parse.result (omega (arith, c.ranges.most)) c.parse.ensures.value.0 (search rules) (search rules))
