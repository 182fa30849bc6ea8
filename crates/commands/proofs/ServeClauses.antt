-- Each clause of `serve_words` follows from its one ending.
use Rattle.std.proofs.Common.{◌≡◌, ◌≢◌, ◌⊎◌, inl, inr, ℕ, ◌*◌, List, [], ◌∷◌, length, Option, None, Some, IfSome, IsSomeAnd, refl, sym, ap, subst, ◌∙◌, arith}
use Rattle.outside.specs.Faults.{Rose}
use Rattle.outside.specs.Library.{Files, LibraryState}
use Rattle.outside.specs.Sink.{SinkState}
use Rattle.outside_links.specs.Door.{DoorState}
use Rattle.wasm_meaning.specs.Programs.{Program}
use Rattle.serve_config.specs.Configuration.{Configuration}
use Rattle.serve_config.specs.Routing.{all_routes}
use Rattle.serve_sessions.specs.Causes.{RoseBy}
use Rattle.commands.proofs.CheckLaws.{IsOver, IsReady, Prepared, prepared, ready_ends}
use Rattle.commands.proofs.Checks.{config_plan_steady}
use Rattle.commands.proofs.Walking.{Failed, Giving, IsOfFiles, IsSteady, Lawful, walk_of_files, walk_over, walk_untold}
use Rattle.commands.specs.CheckPlans.{Onward, config_plan}
use Rattle.commands.specs.Endings.{Done, Ended, out_of_memory, status_of, usage}
use Rattle.commands.specs.Plans.{Ends, Walks, over}
use Rattle.commands.specs.Promises.{HoldsConfig}
use Rattle.commands.specs.ServePromises.{AllEnded, AllServed, EndsServing, HasBegun, IsConfigured, IsRefusal, IsRefused, NoneRose, Noted, ServeYields, ServedAs}
use Rattle.commands.specs.ServeWords.{closed, door_fault, no_thread, serve_plan, serve_plan_of}
use Rattle.commands.specs.declared.status.Status.{Status}
use Rattle.commands.specs.declared.status.Status.TheVariants as status

serve_steady : (name : List ℕ) → IsSteady (serve_plan name)
serve_steady name = config_plan_steady name (λ c programs. Ends closed) (λ c programs. tt)

-- the command came to this ending, or there was no memory
abbrev pub Reached : {L : Type 0} → Giving L → Option (List ℕ) → (old new : L) (t t' : ℕ) (d d' : DoorState) → Ended → Type 0
Reached gave asked old new t t' d d' e = EndsServing gave asked old new t t' d d' e ⊎ (e ≡ out_of_memory)

-- the status of a server's ending
begun : (c : Configuration) (t t' : ℕ) (d d' : DoorState) (e : Ended) (result : Status) → ServedAs c t t' d d' e → result ≡ status_of e → HasBegun result
begun c t t' d d' e result (inl (is, all)) s = inl (s ∙ ap status_of is)
begun c t t' d d' e result (inr (inl (is, rose))) s = inr (inl (s ∙ ap status_of is))
begun c t t' d d' e result (inr (inr (is, rose))) s = inr (inr (s ∙ ap status_of is))

-- Over a library that tells its files the reads come to the ending over them.

ends_over : {L : Type 0} (state : L → LibraryState) (gave : Giving L) → Lawful state gave → (files : Files) (asked : Option (List ℕ)) (old new : L) (e : Ended)
    → (state old).held ≡ Some files → Walks gave (serve_plan_of asked) old new e → (e ≡ over files (serve_plan_of asked)) ⊎ Failed e (state old) (state new)
ends_over state gave tells files None old new e holds walk = inl walk.0
ends_over state gave tells files (Some name) old new e holds walk = walk_over state gave tells files (serve_plan name) old new e (serve_steady name) holds walk

-- the clerks and the tenants of a configuration, as a text
abbrev numbers : Onward
numbers c programs = Ends (Done (c.clerks ∷ length c.tenants ∷ []) [])

-- what was read is the configuration in the file, as far as its clerks and tenants go
same_numbers : (files : Files) (name : List ℕ) (c : Configuration) → Done (c.clerks ∷ length c.tenants ∷ []) [] ≡ over files (config_plan name numbers)
    → (asked : Option (List ℕ)) → asked ≡ Some name → (d d' : DoorState) → AllEnded c d d' → Prepared files name → AllServed asked files d d'
same_numbers files name c same asked is d d' all (IsOver e bad ends) = absurd (bad (sym (ap status_of (same ∙ ends numbers))))
same_numbers files name c same asked is d d' all (IsReady other held programs served) =
    let texts : Done (c.clerks ∷ length c.tenants ∷ []) [] ≡ Done (other.clerks ∷ length other.tenants ∷ []) [] = same ∙ ready_ends files name numbers other programs held served in
    let clerks : c.clerks ≡ other.clerks = cc in
    let tenants : length c.tenants ≡ length other.tenants = cc in
    let product : c.clerks * length c.tenants ≡ other.clerks * length other.tenants = ap (λ (n : ℕ). n * length c.tenants) clerks ∙ ap (λ (n : ℕ). other.clerks * n) tenants in
    record { name = name; is_asked = is; config = other; held = held; ended = subst (RoseBy d.ended d'.ended) product all }

served_files : {L : Type 0} (state : L → LibraryState) (gave : Giving L) → Lawful state gave → (files : Files) (asked : Option (List ℕ)) (old new : L) (d d' : DoorState) (c : Configuration)
    → (state old).held ≡ Some files → IsConfigured gave asked old new c → AllEnded c d d' → AllServed asked files d d'
served_files state gave tells files asked old new d d' c holds ready all =
    elim (walk_over state gave tells files (config_plan ready.name numbers) old new (Done (c.clerks ∷ length c.tenants ∷ []) [])
    (config_plan_steady ready.name numbers (λ c programs. tt)) holds
    ((ready.reads numbers).leads new (Done (c.clerks ∷ length c.tenants ∷ []) []) (refl, refl))) [
      | inl same ↦ same_numbers files ready.name c same asked ready.is_asked d d' all (prepared files ready.name)
      | inr failed ↦ (let bad = failed.0 in cc)
    ]

-- where a server began, the files come to that
begins_over : {L : Type 0} (state : L → LibraryState) (gave : Giving L) → Lawful state gave → (files : Files) (asked : Option (List ℕ)) (old new : L) (c : Configuration)
    → (state old).held ≡ Some files → IsConfigured gave asked old new c → status_of (over files (serve_plan_of asked)) ≡ status.Ok
begins_over state gave tells files asked old new c holds ready =
    subst (λ (a : Option (List ℕ)). status_of (over files (serve_plan_of a)) ≡ status.Ok) (sym ready.is_asked)
    (elim (ends_over state gave tells files (Some ready.name) old new closed holds ((ready.reads (λ c programs. Ends closed)).leads new closed (refl, refl))) [
      | inl same ↦ ap status_of (sym same)
      | inr failed ↦ (let bad = failed.0 in cc)
    ])

yields : {L : Type 0} (state : L → LibraryState) (gave : Giving L) → Lawful state gave → (files : Files) (asked : Option (List ℕ)) (old new : L) (t t' : ℕ) (d d' : DoorState) (e : Ended) (result : Status) (notes notes' : SinkState)
    → (state old).held ≡ Some files → Reached gave asked old new t t' d d' e → Noted e result notes notes'
    → ServeYields (status_of (over files (serve_plan_of asked))) result (state old) (state new) notes notes'
yields state gave tells files asked old new t t' d d' e result notes notes' holds reached (inr (s, part, rose)) = inr (inr (inr (inl (s, rose))))
yields state gave tells files asked old new t t' d d' e result notes notes' holds (inr m) (inl (s, w)) = inr (inr (inl (s ∙ ap status_of m)))
yields state gave tells files asked old new t t' d d' e result notes notes' holds (inl (inl refused)) (inl (s, w)) =
    elim (ends_over state gave tells files asked old new e holds refused.walk) [
      | inl same ↦ inr (inl (λ done. subst IsRefusal (ap status_of same ∙ done) refused.refusal, s ∙ ap status_of same))
      | inr failed ↦ inr (inr (inr (inr (s ∙ failed.0, failed.1))))
    ]
yields state gave tells files asked old new t t' d d' e result notes notes' holds (inl (inr (c, ready, how))) (inl (s, w)) =
    inl (begins_over state gave tells files asked old new c holds ready, begun c t t' d d' e result how s)

-- The clauses.

pub serve_exactly : {L : Type 0} (state : L → LibraryState) (gave : Giving L) → Lawful state gave → (held : Option Files) (asked : Option (List ℕ)) (old new : L) (t t' : ℕ) (d d' : DoorState) (e : Ended) (result : Status) (notes notes' : SinkState)
    → (state old).held ≡ held → Reached gave asked old new t t' d d' e → Noted e result notes notes'
    → IfSome held (λ files. ServeYields (status_of (over files (serve_plan_of asked))) result (state old) (state new) notes notes')
serve_exactly state gave tells None asked old new t t' d d' e result notes notes' holds reached noted = tt
serve_exactly state gave tells (Some files) asked old new t t' d d' e result notes notes' holds reached noted =
    yields state gave tells files asked old new t t' d d' e result notes notes' holds reached noted

pub serve_ended : {L : Type 0} (gave : Giving L) (asked : Option (List ℕ)) (old new : L) (t t' : ℕ) (d d' : DoorState) (e : Ended) (result : Status) (notes notes' : SinkState)
    → Reached gave asked old new t t' d d' e → Noted e result notes notes' → result ≡ status.Ok → (c : Configuration) × IsConfigured gave asked old new c × AllEnded c d d'
serve_ended gave asked old new t t' d d' e result notes notes' reached (inr (s, part, rose)) done = cc
serve_ended gave asked old new t t' d d' e result notes notes' (inr m) (inl (s, w)) done = let same = s ∙ ap status_of m in cc
serve_ended gave asked old new t t' d d' e result notes notes' (inl (inl refused)) (inl (s, w)) done = absurd (subst IsRefusal (sym s ∙ done) refused.refusal)
serve_ended gave asked old new t t' d d' e result notes notes' (inl (inr (c, ready, inl (is, all)))) (inl (s, w)) done = (c, ready, all)
serve_ended gave asked old new t t' d d' e result notes notes' (inl (inr (c, ready, inr (inl (is, rose))))) (inl (s, w)) done = let same = s ∙ ap status_of is in cc
serve_ended gave asked old new t t' d d' e result notes notes' (inl (inr (c, ready, inr (inr (is, rose))))) (inl (s, w)) done = let same = s ∙ ap status_of is in cc

pub serve_all : {L : Type 0} (state : L → LibraryState) (gave : Giving L) → Lawful state gave → (held : Option Files) (asked : Option (List ℕ)) (old new : L) (d d' : DoorState)
    → (state old).held ≡ held → ((c : Configuration) × IsConfigured gave asked old new c × AllEnded c d d') → IfSome held (λ files. AllServed asked files d d')
serve_all state gave tells None asked old new d d' holds ended = tt
serve_all state gave tells (Some files) asked old new d d' holds (c, ready, all) = served_files state gave tells files asked old new d d' c holds ready all

completes : (planned result : Status) (lib lib' : LibraryState) (notes notes' : SinkState) (t t' : ℕ) (d d' : DoorState) → ServeYields planned result lib lib' notes notes'
    → (result ≡ status.NoThread → Rose t t') → (result ≡ status.DoorFault → Rose d.faults d'.faults) → planned ≡ status.Ok → NoneRose lib lib' notes notes' t t' d d'
    → (result ≡ status.Ok) ⊎ (result ≡ status.NoMemory)
completes planned result lib lib' notes notes' t t' d d' (inl (is, inl done)) thread fault accepted none = inl done
completes planned result lib lib' notes notes' t t' d d' (inl (is, inr (inl other))) thread fault accepted none = absurd (none.threads_kept (thread other))
completes planned result lib lib' notes notes' t t' d d' (inl (is, inr (inr other))) thread fault accepted none = absurd (none.door_kept (fault other))
completes planned result lib lib' notes notes' t t' d d' (inr (inl (other, same))) thread fault accepted none = absurd (other accepted)
completes planned result lib lib' notes notes' t t' d d' (inr (inr (inl m))) thread fault accepted none = inr m
completes planned result lib lib' notes notes' t t' d d' (inr (inr (inr (inl (s, rose))))) thread fault accepted none = absurd (none.notes_kept rose)
completes planned result lib lib' notes notes' t t' d d' (inr (inr (inr (inr (s, rose))))) thread fault accepted none = absurd (none.lib_kept rose)

pub serve_complete : (held : Option Files) (asked : Option (List ℕ)) (result : Status) (lib lib' : LibraryState) (notes notes' : SinkState) (t t' : ℕ) (d d' : DoorState)
    → IfSome held (λ files. ServeYields (status_of (over files (serve_plan_of asked))) result lib lib' notes notes')
    → (result ≡ status.NoThread → Rose t t') → (result ≡ status.DoorFault → Rose d.faults d'.faults)
    → IfSome held (λ files. status_of (over files (serve_plan_of asked)) ≡ status.Ok → NoneRose lib lib' notes notes' t t' d d' → (result ≡ status.Ok) ⊎ (result ≡ status.NoMemory))
serve_complete None asked result lib lib' notes notes' t t' d d' yields thread fault = tt
serve_complete (Some files) asked result lib lib' notes notes' t t' d d' yields thread fault =
    λ accepted none. completes (status_of (over files (serve_plan_of asked))) result lib lib' notes notes' t t' d d' yields thread fault accepted none

not_usage : {L : Type 0} (gave : Giving L) (asked : Option (List ℕ)) (old new : L) (e : Ended) → Walks gave (serve_plan_of asked) old new e → status_of e ≡ status.Usage → asked ≡ None
not_usage gave None old new e walk is = refl
not_usage gave (Some name) old new e walk is =
    elim (walk_of_files gave (serve_plan name) old new e (serve_steady name) walk) [
      | inl own ↦ absurd (subst IsOfFiles is own)
      | inr read ↦ cc
    ]

pub serve_usage : {L : Type 0} (gave : Giving L) (asked : Option (List ℕ)) (old new : L) (t t' : ℕ) (d d' : DoorState) (e : Ended) (result : Status) (notes notes' : SinkState)
    → Reached gave asked old new t t' d d' e → Noted e result notes notes' → result ≡ status.Usage → asked ≡ None
serve_usage gave asked old new t t' d d' e result notes notes' reached (inr (s, part, rose)) is = cc
serve_usage gave asked old new t t' d d' e result notes notes' (inr m) (inl (s, w)) is = let same = s ∙ ap status_of m in cc
serve_usage gave asked old new t t' d d' e result notes notes' (inl (inl refused)) (inl (s, w)) is = not_usage gave asked old new e refused.walk (sym s ∙ is)
serve_usage gave asked old new t t' d d' e result notes notes' (inl (inr (c, ready, how))) (inl (s, w)) is =
    elim (begun c t t' d d' e result how s) [
      | inl done ↦ cc
      | inr (inl other) ↦ cc
      | inr (inr other) ↦ cc
    ]

pub serve_usage_else : {L : Type 0} (gave : Giving L) (asked : Option (List ℕ)) (old new : L) (t t' : ℕ) (d d' : DoorState) (e : Ended) (result : Status) (notes notes' : SinkState)
    → Reached gave asked old new t t' d d' e → Noted e result notes notes' → asked ≡ None → (result ≡ status.Usage) ⊎ (result ≡ status.NoMemory) ⊎ (result ≡ status.WriteFault)
serve_usage_else gave asked old new t t' d d' e result notes notes' reached (inr (s, part, rose)) none = inr (inr s)
serve_usage_else gave asked old new t t' d d' e result notes notes' (inr m) (inl (s, w)) none = inr (inl (s ∙ ap status_of m))
serve_usage_else gave asked old new t t' d d' e result notes notes' (inl (inl refused)) (inl (s, w)) none =
    let walk = subst (λ (a : Option (List ℕ)). Walks gave (serve_plan_of a) old new e) none refused.walk in
    inl (s ∙ ap status_of walk.0)
serve_usage_else gave asked old new t t' d d' e result notes notes' (inl (inr (c, ready, how))) (inl (s, w)) none =
    let other : None ≡ Some ready.name = sym none ∙ ready.is_asked in cc

read_at : {L : Type 0} (state : L → LibraryState) (gave : Giving L) → Lawful state gave → (held : Option Files) (asked : Option (List ℕ)) (old new : L) (e : Ended)
    → (state old).held ≡ held → Walks gave (serve_plan_of asked) old new e → status_of e ≡ status.ReadFault
    → Rose (state old).faults (state new).faults ⊎ IsSomeAnd held (λ files. status_of (over files (serve_plan_of asked)) ≡ status.ReadFault)
read_at state gave tells held None old new e holds walk is = let same = ap status_of walk.0 in cc
read_at state gave tells None (Some name) old new e holds walk is =
    inl (walk_untold state gave tells (serve_plan name) old new e (serve_steady name) holds walk is)
read_at state gave tells (Some files) (Some name) old new e holds walk is =
    elim (walk_over state gave tells files (serve_plan name) old new e (serve_steady name) holds walk) [
      | inl same ↦ inr (sym (ap status_of same) ∙ is)
      | inr failed ↦ inl failed.1
    ]

pub serve_read_fault : {L : Type 0} (state : L → LibraryState) (gave : Giving L) → Lawful state gave → (asked : Option (List ℕ)) (old new : L) (t t' : ℕ) (d d' : DoorState) (e : Ended) (result : Status) (notes notes' : SinkState)
    → Reached gave asked old new t t' d d' e → Noted e result notes notes' → result ≡ status.ReadFault
    → Rose (state old).faults (state new).faults ⊎ IsSomeAnd (state old).held (λ files. status_of (over files (serve_plan_of asked)) ≡ status.ReadFault)
serve_read_fault state gave tells asked old new t t' d d' e result notes notes' reached (inr (s, part, rose)) is = cc
serve_read_fault state gave tells asked old new t t' d d' e result notes notes' (inr m) (inl (s, w)) is = let same = s ∙ ap status_of m in cc
serve_read_fault state gave tells asked old new t t' d d' e result notes notes' (inl (inl refused)) (inl (s, w)) is =
    read_at state gave tells (state old).held asked old new e refl refused.walk (sym s ∙ is)
serve_read_fault state gave tells asked old new t t' d d' e result notes notes' (inl (inr (c, ready, how))) (inl (s, w)) is =
    elim (begun c t t' d d' e result how s) [
      | inl done ↦ cc
      | inr (inl other) ↦ cc
      | inr (inr other) ↦ cc
    ]

pub serve_write_fault : {L : Type 0} (gave : Giving L) (asked : Option (List ℕ)) (old new : L) (t t' : ℕ) (d d' : DoorState) (e : Ended) (result : Status) (notes notes' : SinkState)
    → Reached gave asked old new t t' d d' e → Noted e result notes notes' → result ≡ status.WriteFault → Rose notes.faults notes'.faults
serve_write_fault gave asked old new t t' d d' e result notes notes' reached (inr (s, part, rose)) is = rose
serve_write_fault gave asked old new t t' d d' e result notes notes' (inr m) (inl (s, w)) is = let same = s ∙ ap status_of m in cc
serve_write_fault gave asked old new t t' d d' e result notes notes' (inl (inl refused)) (inl (s, w)) is = absurd (subst IsRefusal (sym s ∙ is) refused.refusal)
serve_write_fault gave asked old new t t' d d' e result notes notes' (inl (inr (c, ready, how))) (inl (s, w)) is =
    elim (begun c t t' d d' e result how s) [
      | inl done ↦ cc
      | inr (inl other) ↦ cc
      | inr (inr other) ↦ cc
    ]

pub serve_no_thread : {L : Type 0} (gave : Giving L) (asked : Option (List ℕ)) (old new : L) (t t' : ℕ) (d d' : DoorState) (e : Ended) (result : Status) (notes notes' : SinkState)
    → Reached gave asked old new t t' d d' e → Noted e result notes notes' → result ≡ status.NoThread → Rose t t'
serve_no_thread gave asked old new t t' d d' e result notes notes' reached (inr (s, part, rose)) is = cc
serve_no_thread gave asked old new t t' d d' e result notes notes' (inr m) (inl (s, w)) is = let same = s ∙ ap status_of m in cc
serve_no_thread gave asked old new t t' d d' e result notes notes' (inl (inl refused)) (inl (s, w)) is = absurd (subst IsRefusal (sym s ∙ is) refused.refusal)
serve_no_thread gave asked old new t t' d d' e result notes notes' (inl (inr (c, ready, inl (ends, all)))) (inl (s, w)) is = let same = s ∙ ap status_of ends in cc
serve_no_thread gave asked old new t t' d d' e result notes notes' (inl (inr (c, ready, inr (inl (ends, rose))))) (inl (s, w)) is = rose
serve_no_thread gave asked old new t t' d d' e result notes notes' (inl (inr (c, ready, inr (inr (ends, rose))))) (inl (s, w)) is = let same = s ∙ ap status_of ends in cc

pub serve_door_fault : {L : Type 0} (gave : Giving L) (asked : Option (List ℕ)) (old new : L) (t t' : ℕ) (d d' : DoorState) (e : Ended) (result : Status) (notes notes' : SinkState)
    → Reached gave asked old new t t' d d' e → Noted e result notes notes' → result ≡ status.DoorFault → Rose d.faults d'.faults
serve_door_fault gave asked old new t t' d d' e result notes notes' reached (inr (s, part, rose)) is = cc
serve_door_fault gave asked old new t t' d d' e result notes notes' (inr m) (inl (s, w)) is = let same = s ∙ ap status_of m in cc
serve_door_fault gave asked old new t t' d d' e result notes notes' (inl (inl refused)) (inl (s, w)) is = absurd (subst IsRefusal (sym s ∙ is) refused.refusal)
serve_door_fault gave asked old new t t' d d' e result notes notes' (inl (inr (c, ready, inl (ends, all)))) (inl (s, w)) is = let same = s ∙ ap status_of ends in cc
serve_door_fault gave asked old new t t' d d' e result notes notes' (inl (inr (c, ready, inr (inl (ends, rose))))) (inl (s, w)) is = let same = s ∙ ap status_of ends in cc
serve_door_fault gave asked old new t t' d d' e result notes notes' (inl (inr (c, ready, inr (inr (ends, rose))))) (inl (s, w)) is = rose

pub serve_no_recording : {L : Type 0} (gave : Giving L) (asked : Option (List ℕ)) (old new : L) (t t' : ℕ) (d d' : DoorState) (e : Ended) (result : Status) (notes notes' : SinkState)
    → Reached gave asked old new t t' d d' e → Noted e result notes notes' → (number : ℕ) → result ≢ status.RecordingFault number
serve_no_recording gave asked old new t t' d d' e result notes notes' reached (inr (s, part, rose)) number = λ is. cc
serve_no_recording gave asked old new t t' d d' e result notes notes' (inr m) (inl (s, w)) number = λ is. let same = s ∙ ap status_of m in cc
serve_no_recording gave asked old new t t' d d' e result notes notes' (inl (inl refused)) (inl (s, w)) number = λ is. absurd (subst IsRefusal (sym s ∙ is) refused.refusal)
serve_no_recording gave asked old new t t' d d' e result notes notes' (inl (inr (c, ready, how))) (inl (s, w)) number = λ is.
    elim (begun c t t' d d' e result how s) [
      | inl done ↦ cc
      | inr (inl other) ↦ cc
      | inr (inr other) ↦ cc
    ]
