-- The next export is judged by whether it is the first that has the name of one before it.
use Rattle.std.proofs.Common.{sym, ◌∙◌, arith}
use Rattle.wasm_meaning.specs.Validity.{next_export_rule}
use Rattle.wasm_validate.proofs.ExportSteps.{judged, goes_on}
use Rattle.wasm_validate.proofs.Loops.{item_goes, item_stops}
use Rattle.wasm_validate.proofs.exports.all_exports.Goals as goal

pub returns-in-Some : goal.returns-in-Some
returns-in-Some c =
    let inv = c.loop-export.invariant in
    let due = judged c.args.whole.now c.args.exports.now c.args.used c.loop-export.item c.loop-export.export-index c.export-item.result c.eq.result c.export_rule.result
    c.requires.used inv.place c.loop-export-test.true c.export-item.is inv.ahead c.eq.ensures c.export_rule.ensures in
    sym inv.same
    ∙ item_stops (next_export_rule c.args.whole.now) c.args.exports.now c.loop-export.export-index c.export-item.result c.in-Some.rule
    c.outside.result.number c.outside.result.item c.outside.result.function c.loop-export-test.true c.export-item.is (due ∙ c.in-Some.is)
    c.outside.ensures.number c.outside.ensures.function (c.outside.ensures.item ∙ inv.place)

pub loop-export-preserved : goal.loop-export-preserved
loop-export-preserved c =
    let inv = c.loop-export.invariant in
    let due = judged c.args.whole.now c.args.exports.now c.args.used c.loop-export.item c.loop-export.export-index c.export-item.result c.eq.result c.export_rule.result
    c.requires.used inv.place c.loop-export-test.true c.export-item.is inv.ahead c.eq.ensures c.export_rule.ensures in
    record {
      place = omega arith;
      ahead = λ first is.
          goes_on c.args.whole.now c.args.used c.loop-export.item first c.export-item.result c.eq.result c.export_rule.result is (inv.ahead first is)
          c.eq.ensures c.export_rule.ensures c.in_default.is;
      same = item_goes (next_export_rule c.args.whole.now) c.args.exports.now c.loop-export.export-index c.export-item.result c.loop-export-test.true c.export-item.is
          (due ∙ c.in_default.is) ∙ inv.same;
    }
