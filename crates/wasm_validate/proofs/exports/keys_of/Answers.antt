-- The key of the next export.
use Rattle.std.proofs.Common.{◌+◌, List, [], take, refl, ap, sym, ◌∙◌, subst, arith}
use Rattle.wasm_validate.specs.Names.{fingerprint_of, AreKeys}
use Rattle.wasm_validate.specs.declared.exports.Key.{Key}
use Rattle.wasm_validate.proofs.Least.{no_keys, keys_more, keys_of_all}
use Rattle.wasm_validate.proofs.exports.keys_of.Goals as goal

pub loop-export-init : goal.loop-export-init
loop-export-init c = record { place = refl; keys = subst (λ (keys : List Key). AreKeys [] keys) (sym c.in_ok-keys.ensures.items) (no_keys c.args.exports.now) }

pub loop-export-preserved : goal.loop-export-preserved
loop-export-preserved c =
    let inv = c.loop-export.invariant in
    record {
      place = omega arith;
      keys = subst (λ (keys : List Key). AreKeys (take (c.loop-export.export-index + 1) c.args.exports.now) keys) (sym c.in_ok-push.ensures.items)
          (keys_more c.args.exports.now c.loop-export.keys.items c.loop-export.export-index c.export-item.result (record { number = c.fingerprint-number.result; name = c.as_str-name.result; place = c.loop-export.place })
          inv.keys c.loop-export-test.true c.export-item.is
          (record { number = c.fingerprint-number.ensures ∙ ap fingerprint_of c.as_str-name.ensures; name = c.as_str-name.ensures; place = inv.place }));
    }

pub returns : goal.returns
returns c = keys_of_all c.args.exports.now c.loop-export.keys.items c.loop-export.export-index c.loop-export.invariant.keys c.loop-export-test.false
