-- The groups that are left, behind those so far, are the groups of the whole.
use Rattle.std.proofs.Common.{◌≡◌, ◌-◌, ◌≤◌, length}
use Rattle.wasm_code.specs.Locals.{groups_from}
use Rattle.wasm_code.proofs.locals.read_groups.Given as goal

abbrev pub invariant-loop : goal.invariant-loop
invariant-loop l =
    record {
      same : groups_from (l.groups - l.counter) l.locals.items l.cursor ≡ groups_from l.groups l.fn.locals.items l.fn.cursor;
      few : length l.locals.items ≤ 1024;
    }
