-- The read of the configuration, and what it came to.
use Rattle.std.proofs.Common.{None, List, ℕ, rules, subst, sym}
use Rattle.commands.proofs.CheckWalks.{read_readies}
use Rattle.commands.proofs.Walking.{comes_end, comes_failed, comes_given}
use Rattle.commands.specs.CheckPlans.{check_config, routes_plan}
use Rattle.commands.specs.Plans.{go_on}
use Rattle.commands.specs.Readying.{Readies}
use Rattle.commands.proofs.checking.prepare.Goals as goal

pub returns-in-Ok-clause-readies : goal.returns-in-Ok-clause-readies
returns-in-Ok-clause-readies g c =
    read_readies g.L.Library.gave c.args.name.now c.in-Ok.bytes.items c.from_bytes.result c.args.lib.now c.read.new.self c.from_bytes.new.lib c.in-Ok.ensures.given
    (subst (λ (bytes : List ℕ). Readies g.L.Library.gave (λ next. go_on (routes_plan next) (check_config bytes)) c.from_bytes.result c.read.new.self c.from_bytes.new.lib)
    c.as_slice.ensures.value c.from_bytes.ensures.readies)

pub returns-in_ok-not_read-in-Err-Missing-clause-readies : goal.returns-in_ok-not_read-in-Err-Missing-clause-readies
returns-in_ok-not_read-in-Err-Missing-clause-readies g c =
    λ next. comes_given _ _ _ _ None _ _ _ _ (search rules) (comes_end _ _ _ _ c.in_ok-not_read-in-Err-Missing.ensures)

pub returns-in_ok-not_read-in-Err-Failed-clause-readies : goal.returns-in_ok-not_read-in-Err-Failed-clause-readies
returns-in_ok-not_read-in-Err-Failed-clause-readies g c =
    λ next. comes_failed _ _ _ _ _ _ _ (search rules) c.in_ok-not_read-in-Err-Failed.ensures
