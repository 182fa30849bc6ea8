-- One connection more.
use Rattle.std.proofs.Common.{List, [], ◌∷◌, ◌++◌, ap, ◌∙◌, arith}
use Rattle.recording_format.specs.declared.records.Record.{Record}
use Rattle.recording_format.specs.Standing.{standing_behind}
use Rattle.generated_load.specs.Recording.{beginning_of}
use Rattle.generated_load.proofs.Opened.{begun, next_begins, one_more_beginning}
use Rattle.generated_load.proofs.recording.begun.Goals as goal

pub push-requires : goal.push-requires
push-requires c =
    next_begins (standing_behind c.loop-link.recording) c.loop-link.link c.loop-link.invariant.stands (omega (arith, c.requires, c.loop-link-test.true))

pub loop-link-preserved : goal.loop-link-preserved
loop-link-preserved c = record {
  records =
      c.in_ok-push.ensures.ok
      ∙ (ap (λ (rs : List Record). rs ++ beginning_of c.loop-link.link ∷ []) c.loop-link.invariant.records
      ∙ one_more_beginning c.loop-link.link);
  stands = c.in_ok-push.ensures.stands ∙ begun (standing_behind c.loop-link.recording) c.loop-link.link c.loop-link.invariant.stands;
}
