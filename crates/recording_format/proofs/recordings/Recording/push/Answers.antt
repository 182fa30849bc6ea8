-- The record may follow the others, and `mark` says how the connections stand behind it.
use Rattle.std.proofs.Common.{◌≡◌, List, [], ◌∷◌, ◌++◌, ap, ◌∙◌}
use Rattle.recording_format.specs.declared.records.Record.{Record}
use Rattle.recording_format.specs.Standing.{Standing, standing_behind, beginning}
use Rattle.recording_format.specs.Following.{MayFollow}
use Rattle.recording_format.proofs.StandingLaws.{behind_all-append, pushed}
use Rattle.recording_format.proofs.recordings.Recording.push.Goals as goal

pub invariant_of-self-2 : goal.invariant_of-self-2
invariant_of-self-2 c =
    let before = c.self.inside.records.items in
    let next = c.args.next in
    let items : c.push_reserved.new.self.items ≡ before ++ next ∷ [] = c.push_reserved.ensures.items ∙ ap (λ (rs : List Record). rs ++ next ∷ []) c.try_reserve.ensures.items in
    let may : MayFollow (standing_behind before) next = rw c.self.view_is c.requires in
    let s : Standing = record { last = c.self.inside.last; links = c.self.inside.links.items } in
    let marked = rw c.try_reserve-2.ensures.items at c.mark.ensures in
    rw items (pushed before next s c.mark.new.links.items c.self.invariant.0 may c.self.invariant.1 marked)

pub returns-clause-stands : goal.returns-clause-stands
returns-clause-stands c =
    let before = c.self.inside.records.items in
    let next = c.args.next in
    let items : c.push_reserved.new.self.items ≡ before ++ next ∷ [] = c.push_reserved.ensures.items ∙ ap (λ (rs : List Record). rs ++ next ∷ []) c.try_reserve.ensures.items in
    rw (items, ← c.self.view_is) (behind_all-append beginning before next)
