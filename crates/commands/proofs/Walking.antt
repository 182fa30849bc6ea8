-- Reads that are made one after another carry out a plan, and over a library that tells its files they come to the ending over them.
use Rattle.std.proofs.Common.{◌≡◌, ◌⊎◌, inl, inr, ℕ, ◌+◌, ◌≤◌, cond, List, [], take, Option, None, Some, IfSome, refl, sym, ap, subst, ◌∙◌, arith}
use Rattle.std.specs.Option.{option_map}
use Rattle.outside.proofs.ShelfAnswers.{fails_as_told, never_fails}
use Rattle.outside.specs.Faults.{Rose, one_more}
use Rattle.outside.specs.Library.{AreBytes, Fails, Fetched, Files, Gives, IsTold, LibraryState, Tells}
use Rattle.outside.specs.Shelf.{Contents, ShelfGave}
use Rattle.commands.specs.Endings.{Due, Ended, due, not_read, status_of}
use Rattle.commands.specs.Plans.{Comes, Ends, IsUnread, Plan, Reads, ReadsBytes, Walks, over}
use Rattle.commands.specs.declared.status.Status.{Status}
use Rattle.commands.specs.declared.status.Status.TheVariants as status

-- what reads came to, as a relation of a library
abbrev pub Giving : Type 0 → Type 1
Giving L = L → L → List ℕ → ℕ → Fetched → Type 0

-- the law of libraries: what was given is what is held
abbrev pub Lawful : {L : Type 0} → (L → LibraryState) → Giving L → Type 0
Lawful {L} state gave = (old new : L) (name : List ℕ) (most : ℕ) (fetched : Fetched) → gave old new name most fetched → Tells (state old) (state new) name most fetched

-- no read is left
pub comes_end : {L : Type 0} (gave : Giving L) (e : Ended) (lib : L) (planned : Due) → planned ≡ due e → Comes gave (Ends e) lib lib planned
comes_end gave e lib planned is = record { ending = e; walk = (refl, refl); is_due = is }

-- a read gave this, and the plan goes on
pub comes_given : {L : Type 0} (gave : Giving L) (name : List ℕ) (most : ℕ) (next : Option (List ℕ) → Plan) (answer : Option (List ℕ)) (old between new : L) (planned : Due)
    → gave old between name most (Gives answer) → Comes gave (next answer) between new planned → Comes gave (Reads name most next) old new planned
comes_given gave name most next answer old between new planned given rest =
    record { ending = rest.ending; walk = inr (between, answer, given, rest.walk); is_due = rest.is_due }

-- a read failed
pub comes_failed : {L : Type 0} (gave : Giving L) (name : List ℕ) (most : ℕ) (next : Option (List ℕ) → Plan) (old new : L) (planned : Due)
    → gave old new name most Fails → planned ≡ due (not_read name) → Comes gave (Reads name most next) old new planned
comes_failed gave name most next old new planned fails is =
    record { ending = not_read name; walk = inl (fails, refl); is_due = is }

-- What a plan must be for that: a missing file cannot be read, the first bytes of a file that is too long do for all of it,
-- and behind a file's bytes stand no endings but those with a status of the files' own.

-- the statuses that files have: not those of words, reads, writes, memory, threads and ports
abbrev pub IsOfFiles : Status → Type 0
IsOfFiles status.Ok = Unit {0}
IsOfFiles (status.ConfigFault number) = Unit {0}
IsOfFiles (status.ModuleFault route number place) = Unit {0}
IsOfFiles (status.RecordingFault number) = Unit {0}
IsOfFiles status.Usage = ⊥
IsOfFiles status.ReadFault = ⊥
IsOfFiles status.WriteFault = ⊥
IsOfFiles status.NoMemory = ⊥
IsOfFiles status.NoThread = ⊥
IsOfFiles status.DoorFault = ⊥

abbrev pub IsSteady : Plan → Type 0
IsSteady (Ends e) = IsOfFiles (status_of e)
IsSteady (Reads name most next) =
    (next None ≡ Ends (not_read name))
    × ((whole : List ℕ) → next (Some (take (most + 1) whole)) ≡ next (Some whole))
    × ((bytes : List ℕ) → IsSteady (next (Some bytes)))

rose_since : (before middle now : ℕ) → before ≤ middle → Rose middle now → Rose before now
rose_since before middle now h r = omega arith

rose_until : (before middle now : ℕ) → middle ≡ now → Rose before middle → Rose before now
rose_until before middle now e r = subst (Rose before) e r

-- the front that was given is that of the held file, so the plan goes on as with the whole file
goes_on_whole : (most : ℕ) (next : Option (List ℕ) → Plan) (file : Option (List ℕ)) (bytes : List ℕ)
    → ((whole : List ℕ) → next (Some (take (most + 1) whole)) ≡ next (Some whole)) → option_map (take (most + 1)) file ≡ Some bytes → next (Some bytes) ≡ next file
goes_on_whole most next None bytes steady told = cc
goes_on_whole most next (Some whole) bytes steady told =
    let front : bytes ≡ take (most + 1) whole = cc in
    ap (λ (x : List ℕ). next (Some x)) front ∙ steady whole

-- a read failed, and was counted
abbrev pub Failed : Ended → (old new : LibraryState) → Type 0
Failed e old new = (status_of e ≡ status.ReadFault) × Rose old.faults new.faults

since : (e : Ended) (old between new : LibraryState) → old.faults ≤ between.faults → Failed e between new → Failed e old new
since e old between new later f = (f.0, rose_since old.faults between.faults new.faults later f.1)

told_fails : (held : Option Files) (name : List ℕ) (most before now : ℕ) → IsTold held name most before now Fails → Rose before now
told_fails None name most before now rose = rose
told_fails (Some files) name most before now rose = rose

fails_rose : {L : Type 0} (state : L → LibraryState) (gave : Giving L) → Lawful state gave → (name : List ℕ) (most : ℕ) (old new : L) → gave old new name most Fails → Rose (state old).faults (state new).faults
fails_rose state gave tells name most old new fails =
    told_fails (state old).held name most (state old).faults (state new).faults (tells old new name most Fails fails).told

-- a library that tells its files brings a plan to its ending over them, or a read failed
pub walk_over : {L : Type 0} (state : L → LibraryState) (gave : Giving L) → Lawful state gave → (files : Files) (plan : Plan) (old new : L) (e : Ended)
    → IsSteady plan → (state old).held ≡ Some files → Walks gave plan old new e → (e ≡ over files plan) ⊎ Failed e (state old) (state new)
walk_over state gave tells files (Ends planned) old new e steady holds walk = inl walk.0
walk_over state gave tells files (Reads name most next) old new e steady holds (inl fails) =
    inr (ap status_of fails.1, fails_rose state gave tells name most old new fails.0)
walk_over state gave tells files (Reads name most next) old new e steady holds (inr (between, None, given, walk)) =
    let law = tells old between name most (Gives None) given in
    let told = subst (λ held. IsTold held name most (state old).faults (state between).faults (Gives None)) holds law.told in
    let ends = subst (λ plan. Walks gave plan between new e) steady.0 walk in
    inl (ends.0 ∙ ap (over files) (sym steady.0) ∙ ap (λ file. over files (next file)) (sym told.0))
walk_over state gave tells files (Reads name most next) old new e steady holds (inr (between, Some bytes, given, walk)) =
    let law = tells old between name most (Gives (Some bytes)) given in
    let told : option_map (take (most + 1)) (files name) ≡ Some bytes = subst (λ held. IsTold held name most (state old).faults (state between).faults (Gives (Some bytes))) holds law.told in
    elim (walk_over state gave tells files (next (Some bytes)) between new e (steady.2 bytes) (law.same ∙ holds) walk) [
      | inl same ↦ inl (same ∙ ap (over files) (goes_on_whole most next (files name) bytes steady.1 told))
      | inr failed ↦ inr (since e (state old) (state between) (state new) law.later failed)
    ]

-- what was given are bytes, and so as much of the held file is
front_bytes : (most : ℕ) (file : Option (List ℕ)) (bytes : List ℕ) → option_map (take (most + 1)) file ≡ Some bytes → AreBytes bytes
    → IfSome file (λ whole. AreBytes (take (most + 1) whole))
front_bytes most None bytes told are = tt
front_bytes most (Some whole) bytes told are =
    let front : bytes ≡ take (most + 1) whole = cc in
    subst (λ (x : List ℕ). AreBytes x) front are

-- over a library that tells its files the files that a plan reads are bytes, unless one could not be read
pub walk_bytes : {L : Type 0} (state : L → LibraryState) (gave : Giving L) → Lawful state gave → (files : Files) (plan : Plan) (old new : L) (e : Ended)
    → IsSteady plan → (state old).held ≡ Some files → Walks gave plan old new e → ReadsBytes files plan ⊎ (status_of e ≡ status.ReadFault)
walk_bytes state gave tells files (Ends planned) old new e steady holds walk = inl tt
walk_bytes state gave tells files (Reads name most next) old new e steady holds (inl fails) = inr (ap status_of fails.1)
walk_bytes state gave tells files (Reads name most next) old new e steady holds (inr (between, None, given, walk)) =
    let ends = subst (λ plan. Walks gave plan between new e) steady.0 walk in
    inr (ap status_of ends.0)
walk_bytes state gave tells files (Reads name most next) old new e steady holds (inr (between, Some bytes, given, walk)) =
    let law = tells old between name most (Gives (Some bytes)) given in
    let told : option_map (take (most + 1)) (files name) ≡ Some bytes = subst (λ held. IsTold held name most (state old).faults (state between).faults (Gives (Some bytes))) holds law.told in
    elim (walk_bytes state gave tells files (next (Some bytes)) between new e (steady.2 bytes) (law.same ∙ holds) walk) [
      | inl rest ↦ inl (front_bytes most (files name) bytes told law.bytes, subst (ReadsBytes files) (goes_on_whole most next (files name) bytes steady.1 told) rest)
      | inr bad ↦ inr bad
    ]

-- over a library that tells nothing a plan comes to a read fault only where a read failed
pub walk_untold : {L : Type 0} (state : L → LibraryState) (gave : Giving L) → Lawful state gave → (plan : Plan) (old new : L) (e : Ended)
    → IsSteady plan → (state old).held ≡ None → Walks gave plan old new e → status_of e ≡ status.ReadFault → Rose (state old).faults (state new).faults
walk_untold state gave tells (Ends planned) old new e steady holds walk is =
    absurd (subst IsOfFiles (sym (ap status_of walk.0) ∙ is) steady)
walk_untold state gave tells (Reads name most next) old new e steady holds (inl fails) is = fails_rose state gave tells name most old new fails.0
walk_untold state gave tells (Reads name most next) old new e steady holds (inr (between, None, given, walk)) is =
    let law = tells old between name most (Gives None) given in
    let rose : Rose (state old).faults (state between).faults = subst (λ held. IsTold held name most (state old).faults (state between).faults (Gives None)) holds law.told in
    let ends = subst (λ plan. Walks gave plan between new e) steady.0 walk in
    rose_until (state old).faults (state between).faults (state new).faults (ap (λ lib. (state lib).faults) (sym ends.1)) rose
walk_untold state gave tells (Reads name most next) old new e steady holds (inr (between, Some bytes, given, walk)) is =
    let law = tells old between name most (Gives (Some bytes)) given in
    rose_since (state old).faults (state between).faults (state new).faults law.later
    (walk_untold state gave tells (next (Some bytes)) between new e (steady.2 bytes) (law.same ∙ holds) walk is)

-- a plan comes to no status but those of files, and a read fault
pub walk_of_files : {L : Type 0} (gave : Giving L) (plan : Plan) (old new : L) (e : Ended)
    → IsSteady plan → Walks gave plan old new e → IsOfFiles (status_of e) ⊎ (status_of e ≡ status.ReadFault)
walk_of_files gave (Ends planned) old new e steady walk = inl (subst IsOfFiles (ap status_of (sym walk.0)) steady)
walk_of_files gave (Reads name most next) old new e steady (inl fails) = inr (ap status_of fails.1)
walk_of_files gave (Reads name most next) old new e steady (inr (between, None, given, walk)) =
    let ends = subst (λ plan. Walks gave plan between new e) steady.0 walk in inr (ap status_of ends.0)
walk_of_files gave (Reads name most next) old new e steady (inr (between, Some bytes, given, walk)) =
    walk_of_files gave (next (Some bytes)) between new e (steady.2 bytes) walk

-- over a library that tells its files a plan comes to a read fault by its last read: that call failed, or no file has the name, and the count is as it was before
pub walk_unread : {L : Type 0} (state : L → LibraryState) (gave : Giving L) → Lawful state gave → (files : Files) (plan : Plan) (old new : L) (e : Ended)
    → IsSteady plan → (state old).held ≡ Some files → Walks gave plan old new e → status_of e ≡ status.ReadFault → IsUnread state gave files new e
walk_unread state gave tells files (Ends planned) old new e steady holds walk is =
    absurd (subst IsOfFiles (sym (ap status_of walk.0) ∙ is) steady)
walk_unread state gave tells files (Reads name most next) old new e steady holds (inl fails) is =
    record { between = old; name = name; most = most; named = fails.1; why = inl fails.0 }
walk_unread state gave tells files (Reads name most next) old new e steady holds (inr (between, None, given, walk)) is =
    let law = tells old between name most (Gives None) given in
    let told = subst (λ held. IsTold held name most (state old).faults (state between).faults (Gives None)) holds law.told in
    let ends = subst (λ plan. Walks gave plan between new e) steady.0 walk in
    record { between = old; name = name; most = most; named = ends.0; why = inr (told.0, told.1 ∙ ap (λ lib. (state lib).faults) (sym ends.1)) }
walk_unread state gave tells files (Reads name most next) old new e steady holds (inr (between, Some bytes, given, walk)) is =
    let law = tells old between name most (Gives (Some bytes)) given in
    walk_unread state gave tells files (next (Some bytes)) between new e (steady.2 bytes) (law.same ∙ holds) walk is

-- over a shelf none of whose calls fail no plan counts a fault
pub walk_shelf : (plan : Plan) (old new : Contents) (e : Ended) → old.failing ≡ [] → Walks ShelfGave plan old new e → new.faults ≡ old.faults
walk_shelf (Ends planned) old new e none walk = ap (λ s. s.faults) walk.1
walk_shelf (Reads name most next) old new e none (inl fails) =
    let told = fails_as_told old new name most fails.0 in
    let never = never_fails old none in
    cc
walk_shelf (Reads name most next) old new e none (inr (between, answer, given, walk)) =
    walk_shelf (next answer) between new e (ap (λ s. s.failing) given.after ∙ none) walk
    ∙ ap (λ s. s.faults) given.after ∙ ap (λ b. cond b (one_more old.faults) old.faults) (never_fails old none)
