-- Each clause of `run` follows from its one ending, whatever the command.
use Rattle.std.proofs.Common.{◌≡◌, ◌≢◌, ◌⊎◌, inl, inr, ℕ, ◌^◌, ◌<◌, List, length, Option, None, Some, IfSome, IsSomeAnd, refl, sym, ap, subst, ◌∙◌, arith}
use Rattle.outside.specs.Faults.{Rose}
use Rattle.outside.specs.Library.{Files, LibraryState}
use Rattle.outside.specs.Sink.{SinkState}
use Rattle.commands.proofs.Checks.{plan_steady}
use Rattle.commands.proofs.Walking.{Failed, Giving, IsOfFiles, Lawful, walk_bytes, walk_of_files, walk_over, walk_untold}
use Rattle.commands.specs.CommandLine.{Asked}
use Rattle.commands.specs.Commands.{plan_of}
use Rattle.commands.specs.Delivery.{Leaves, Took, WroteInPart}
use Rattle.commands.specs.Endings.{Done, Due, Ended, IsBrief, Refuses, note_of, out_of_memory, status_of, text_of}
use Rattle.commands.specs.Plans.{Comes, ReadsBytes, Walks, over}
use Rattle.commands.specs.Promises.{Refused, WriteRose, Yields}
use Rattle.commands.specs.declared.status.Status.{Status}
use Rattle.commands.specs.declared.status.Status.TheVariants as status

-- the reads came to this ending, or there was no memory
abbrev pub Reached : {L : Type 0} → Giving L → Option Asked → (old new : L) → Ended → Type 0
Reached gave asked old new e = Walks gave (plan_of asked) old new e ⊎ (e ≡ out_of_memory)

-- a refusal leaves one line on the notes, and nothing on the output
pub leaves_refused : (e : Ended) (result : Status) (out out' notes notes' : SinkState) → Leaves e result out out' notes notes'
    → result ≢ status.Ok → result ≢ status.WriteFault → Refused out out' notes notes'
leaves_refused (Done text note) result out out' notes notes' (inl (s, w)) other whole = absurd (other s)
leaves_refused (Refuses s words) result out out' notes notes' (inl (same, w)) other whole =
    record { out_took = w.out_took; words = words; notes_took = w.notes_took }
leaves_refused e result out out' notes notes' (inr (s, w)) other whole = absurd (whole s)

broke_rose : (text note : List ℕ) (out out' notes notes' : SinkState) → WroteInPart text note out out' notes notes' → WriteRose out out' notes notes'
broke_rose text note out out' notes notes' (inl t) = inl t.out_rose
broke_rose text note out out' notes notes' (inr t) = inr t.notes_rose

-- the ending over a library's files, for words of a shape and for others
ends_over : {L : Type 0} (state : L → LibraryState) (gave : Giving L) → Lawful state gave → (files : Files) (asked : Option Asked) (old new : L) (e : Ended)
    → (state old).held ≡ Some files → Walks gave (plan_of asked) old new e → (e ≡ over files (plan_of asked)) ⊎ Failed e (state old) (state new)
ends_over state gave tells files None old new e holds walk = inl walk.0
ends_over state gave tells files (Some asked) old new e holds walk = walk_over state gave tells files (plan_of (Some asked)) old new e (plan_steady asked) holds walk

-- no ending has the status of a write that failed
never_write_fault : {L : Type 0} (gave : Giving L) (asked : Option Asked) (old new : L) (e : Ended) → Reached gave asked old new e → status_of e ≢ status.WriteFault
never_write_fault gave None old new e (inl walk) = λ is. let same = ap status_of walk.0 in cc
never_write_fault gave (Some asked) old new e (inl walk) =
    λ is. elim (walk_of_files gave (plan_of (Some asked)) old new e (plan_steady asked) walk) [
      | inl own ↦ absurd (subst IsOfFiles is own)
      | inr read ↦ cc
    ]
never_write_fault gave asked old new e (inr m) = λ is. let same = ap status_of m in cc

yields : {L : Type 0} (state : L → LibraryState) (gave : Giving L) → Lawful state gave → (files : Files) (asked : Option Asked) (old new : L) (e : Ended) (result : Status) (out out' notes notes' : SinkState)
    → (state old).held ≡ Some files → Reached gave asked old new e → Leaves e result out out' notes notes'
    → Yields (status_of (over files (plan_of asked))) result (state old) (state new) out out' notes notes'
yields state gave tells files asked old new e result out out' notes notes' holds reached (inr (s, w)) =
    inr (inr (inl (s, broke_rose (text_of e) (note_of e) out out' notes notes' w)))
yields state gave tells files asked old new e result out out' notes notes' holds (inr m) (inl (s, w)) = inr (inl (s ∙ ap status_of m))
yields state gave tells files asked old new e result out out' notes notes' holds (inl walk) (inl (s, w)) =
    elim (ends_over state gave tells files asked old new e holds walk) [
      | inl same ↦ inl (s ∙ ap status_of same)
      | inr failed ↦ inr (inr (inr (s ∙ failed.0, failed.1)))
    ]

took : {L : Type 0} (state : L → LibraryState) (gave : Giving L) → Lawful state gave → (files : Files) (asked : Option Asked) (old new : L) (e : Ended) (result : Status) (out out' notes notes' : SinkState)
    → (state old).held ≡ Some files → Reached gave asked old new e → Leaves e result out out' notes notes'
    → result ≡ status.Ok → Took (over files (plan_of asked)) out out' notes notes'
took state gave tells files asked old new e result out out' notes notes' holds reached (inr (s, w)) done = cc
took state gave tells files asked old new e result out out' notes notes' holds (inr m) (inl (s, w)) done = let same = s ∙ ap status_of m in cc
took state gave tells files asked old new e result out out' notes notes' holds (inl walk) (inl (s, w)) done =
    elim (ends_over state gave tells files asked old new e holds walk) [
      | inl same ↦ subst (λ x. Took x out out' notes notes') same w
      | inr failed ↦ let same = s ∙ failed.0 in cc
    ]

bytes_read : {L : Type 0} (state : L → LibraryState) (gave : Giving L) → Lawful state gave → (files : Files) (asked : Option Asked) (old new : L) (e : Ended) (result : Status) (out out' notes notes' : SinkState)
    → (state old).held ≡ Some files → Reached gave asked old new e → Leaves e result out out' notes notes'
    → result ≡ status.Ok → ReadsBytes files (plan_of asked)
bytes_read state gave tells files asked old new e result out out' notes notes' holds reached (inr (s, w)) done = cc
bytes_read state gave tells files asked old new e result out out' notes notes' holds (inr m) (inl (s, w)) done = let same = s ∙ ap status_of m in cc
bytes_read state gave tells files None old new e result out out' notes notes' holds (inl walk) (inl (s, w)) done = tt
bytes_read state gave tells files (Some asked) old new e result out out' notes notes' holds (inl walk) (inl (s, w)) done =
    elim (walk_bytes state gave tells files (plan_of (Some asked)) old new e (plan_steady asked) holds walk) [
      | inl reads ↦ reads
      | inr bad ↦ let same = s ∙ bad in cc
    ]

-- The clauses.

pub leaves_exactly : {L : Type 0} (state : L → LibraryState) (gave : Giving L) → Lawful state gave → (held : Option Files) (asked : Option Asked) (old new : L) (e : Ended) (result : Status) (out out' notes notes' : SinkState)
    → (state old).held ≡ held → Reached gave asked old new e → Leaves e result out out' notes notes'
    → IfSome held (λ files. Yields (status_of (over files (plan_of asked))) result (state old) (state new) out out' notes notes')
leaves_exactly state gave tells None asked old new e result out out' notes notes' holds reached leaves = tt
leaves_exactly state gave tells (Some files) asked old new e result out out' notes notes' holds reached leaves =
    yields state gave tells files asked old new e result out out' notes notes' holds reached leaves

pub leaves_done : {L : Type 0} (state : L → LibraryState) (gave : Giving L) → Lawful state gave → (held : Option Files) (asked : Option Asked) (old new : L) (e : Ended) (result : Status) (out out' notes notes' : SinkState)
    → (state old).held ≡ held → Reached gave asked old new e → Leaves e result out out' notes notes'
    → result ≡ status.Ok → IfSome held (λ files. Took (over files (plan_of asked)) out out' notes notes')
leaves_done state gave tells None asked old new e result out out' notes notes' holds reached leaves done = tt
leaves_done state gave tells (Some files) asked old new e result out out' notes notes' holds reached leaves done =
    took state gave tells files asked old new e result out out' notes notes' holds reached leaves done

pub leaves_bytes : {L : Type 0} (state : L → LibraryState) (gave : Giving L) → Lawful state gave → (held : Option Files) (asked : Option Asked) (old new : L) (e : Ended) (result : Status) (out out' notes notes' : SinkState)
    → (state old).held ≡ held → Reached gave asked old new e → Leaves e result out out' notes notes'
    → result ≡ status.Ok → IfSome held (λ files. ReadsBytes files (plan_of asked))
leaves_bytes state gave tells None asked old new e result out out' notes notes' holds reached leaves done = tt
leaves_bytes state gave tells (Some files) asked old new e result out out' notes notes' holds reached leaves done =
    bytes_read state gave tells files asked old new e result out out' notes notes' holds reached leaves done

pub leaves_usage : {L : Type 0} (gave : Giving L) (asked : Option Asked) (old new : L) (e : Ended) (result : Status) (out out' notes notes' : SinkState)
    → Reached gave asked old new e → Leaves e result out out' notes notes' → result ≡ status.Usage → asked ≡ None
leaves_usage gave None old new e result out out' notes notes' reached leaves is = refl
leaves_usage gave (Some asked) old new e result out out' notes notes' reached (inr (s, w)) is = cc
leaves_usage gave (Some asked) old new e result out out' notes notes' (inr m) (inl (s, w)) is = let same = s ∙ ap status_of m in cc
leaves_usage gave (Some asked) old new e result out out' notes notes' (inl walk) (inl (s, w)) is =
    elim (walk_of_files gave (plan_of (Some asked)) old new e (plan_steady asked) walk) [
      | inl own ↦ absurd (subst IsOfFiles (sym s ∙ is) own)
      | inr read ↦ let same = s ∙ read in cc
    ]

read_at : {L : Type 0} (state : L → LibraryState) (gave : Giving L) → Lawful state gave → (held : Option Files) (asked : Option Asked) (old new : L) (e : Ended)
    → (state old).held ≡ held → Walks gave (plan_of asked) old new e → status_of e ≡ status.ReadFault
    → Rose (state old).faults (state new).faults ⊎ IsSomeAnd held (λ files. status_of (over files (plan_of asked)) ≡ status.ReadFault)
read_at state gave tells held None old new e holds walk is = let same = ap status_of walk.0 in cc
read_at state gave tells None (Some asked) old new e holds walk is =
    inl (walk_untold state gave tells (plan_of (Some asked)) old new e (plan_steady asked) holds walk is)
read_at state gave tells (Some files) (Some asked) old new e holds walk is =
    elim (walk_over state gave tells files (plan_of (Some asked)) old new e (plan_steady asked) holds walk) [
      | inl same ↦ inr (sym (ap status_of same) ∙ is)
      | inr failed ↦ inl failed.1
    ]

pub leaves_read_fault : {L : Type 0} (state : L → LibraryState) (gave : Giving L) → Lawful state gave → (asked : Option Asked) (old new : L) (e : Ended) (result : Status) (out out' notes notes' : SinkState)
    → Reached gave asked old new e → Leaves e result out out' notes notes' → result ≡ status.ReadFault
    → Rose (state old).faults (state new).faults ⊎ IsSomeAnd (state old).held (λ files. status_of (over files (plan_of asked)) ≡ status.ReadFault)
leaves_read_fault state gave tells asked old new e result out out' notes notes' reached (inr (s, w)) is = cc
leaves_read_fault state gave tells asked old new e result out out' notes notes' (inr m) (inl (s, w)) is = let same = s ∙ ap status_of m in cc
leaves_read_fault state gave tells asked old new e result out out' notes notes' (inl walk) (inl (s, w)) is =
    read_at state gave tells (state old).held asked old new e refl walk (sym s ∙ is)

pub leaves_write_fault : {L : Type 0} (gave : Giving L) (asked : Option Asked) (old new : L) (e : Ended) (result : Status) (out out' notes notes' : SinkState)
    → Reached gave asked old new e → Leaves e result out out' notes notes' → result ≡ status.WriteFault → WriteRose out out' notes notes'
leaves_write_fault gave asked old new e result out out' notes notes' reached (inr (s, w)) is = broke_rose (text_of e) (note_of e) out out' notes notes' w
leaves_write_fault gave asked old new e result out out' notes notes' reached (inl (s, w)) is = absurd (never_write_fault gave asked old new e reached (sym s ∙ is))

pub leaves_no_server : {L : Type 0} (gave : Giving L) (asked : Option Asked) (old new : L) (e : Ended) (result : Status) (out out' notes notes' : SinkState)
    → Reached gave asked old new e → Leaves e result out out' notes notes' → (result ≢ status.NoThread) × (result ≢ status.DoorFault)
leaves_no_server gave asked old new e result out out' notes notes' reached (inr (s, w)) = (λ is. cc, λ is. cc)
leaves_no_server gave asked old new e result out out' notes notes' (inr m) (inl (s, w)) =
    let same = s ∙ ap status_of m in (λ is. cc, λ is. cc)
leaves_no_server gave None old new e result out out' notes notes' (inl walk) (inl (s, w)) =
    let same = s ∙ ap status_of walk.0 in (λ is. cc, λ is. cc)
leaves_no_server gave (Some asked) old new e result out out' notes notes' (inl walk) (inl (s, w)) =
    elim (walk_of_files gave (plan_of (Some asked)) old new e (plan_steady asked) walk) [
      | inl own ↦ (λ is. absurd (subst IsOfFiles (sym s ∙ is) own), λ is. absurd (subst IsOfFiles (sym s ∙ is) own))
      | inr read ↦ let same = s ∙ read in (λ is. cc, λ is. cc)
    ]

brief_over : {L : Type 0} (state : L → LibraryState) (gave : Giving L) → Lawful state gave → (files : Files) (asked : Option Asked) (old new : L) (planned : Due)
    → (state old).held ≡ Some files → planned.status ≡ status.Ok → IsBrief planned → Comes gave (plan_of asked) old new planned → length (text_of (over files (plan_of asked))) < 2 ^ 32
brief_over state gave tells files asked old new planned holds done brief comes =
    elim (ends_over state gave tells files asked old new comes.ending holds comes.walk) [
      | inl same ↦ omega (arith, brief, ap (λ (d : Due). length d.text) comes.is_due, ap (λ (e : Ended). length (text_of e)) same)
      | inr failed ↦ let other = sym done ∙ ap (λ (d : Due). d.status) comes.is_due ∙ failed.0 in cc
    ]

pub comes_brief : {L : Type 0} (state : L → LibraryState) (gave : Giving L) → Lawful state gave → (held : Option Files) (asked : Option Asked) (old new : L) (planned : Due)
    → (state old).held ≡ held → planned.status ≡ status.Ok → IsBrief planned → Comes gave (plan_of asked) old new planned → IfSome held (λ files. length (text_of (over files (plan_of asked))) < 2 ^ 32)
comes_brief state gave tells None asked old new planned holds done brief comes = tt
comes_brief state gave tells (Some files) asked old new planned holds done brief comes = brief_over state gave tells files asked old new planned holds done brief comes
