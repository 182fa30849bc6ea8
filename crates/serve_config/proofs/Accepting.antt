-- What is accepted as a configuration is in range, value by value, and keeps what is looked at over the whole.
use Rattle.std.proofs.Common.{◌≡◌, ℕ, suc, ◌≤◌, Bool, true, false, List, ◌∷◌, length, Option, None, Some, option_and_then, Result, Ok, Err, if◌then◌else◌, nat_lt, codes, refl, ap, subst, arith}
use Rattle.std.specs.Prelude.{IfOk}
use Rattle.std.specs.List.{AllByRecursion, list_any, list_all}
use Rattle.std.proofs.lemmas.Bool.Decides.{nat_tests}
use Rattle.run_queues.specs.declared.policies.Policy.{Policy}
use Rattle.serde_json.specs.Data.{Data, Items, no_items, item}
use Rattle.serde_json.specs.Events.{items_len}
use Rattle.serde_json.specs.Find.{get, as_number, as_u64, as_str, as_array}
use Rattle.serve_config.specs.declared.refusals.Refusal.{Refusal}
use Rattle.serve_config.specs.declared.refusals.Refusal.TheVariants.{MissingKey, WrongKind, OutOfRange, DoubleName, DoubleRoute, BadRoute, RegionTooLarge, BadContentType}
use Rattle.serve_config.specs.declared.tenants.Route.{Route}
use Rattle.serve_config.specs.declared.tenants.Tenant.{Tenant}
use Rattle.serve_config.specs.Steps.{go_on, or_refuse}
use Rattle.serve_config.specs.Letters.{is_name_byte}
use Rattle.serve_config.specs.Kinds.{within, number, text, with_name_bytes, name, policy, each_of, array, array_of, object_of, required, or_standard, optional}
use Rattle.serve_config.specs.Objects.{route_keys, tenant_keys, top_keys}
use Rattle.serve_config.specs.Configuration.{Configuration}
use Rattle.serve_config.specs.Ranges.{IsBetween, IsRouteInRange, IsTenantInRange, IsInRange}
use Rattle.serve_config.specs.Overview.{route_count, has_double, are_rivals, some_route, has_bad_path, has_one_path, has_bad_content_type, is_too_large, first_fault}
use Rattle.serve_config.specs.Whole.{IsWhole}
use Rattle.serve_config.specs.Walk.{route_of, tenant_of, unless_faulty, config_of}
use Rattle.serve_config.specs.Reading.{json_of, configuration}

-- ---- steps

-- whatever the first step gives, the second one keeps it
goes_on : {A B : Type 0} (P : B → Type 0) (r : Result A Refusal) (rest : A → Result B Refusal) → ((a : A) → IfOk (rest a) P) → IfOk (go_on r rest) P
goes_on P (Ok a) rest keeps = keeps a
goes_on P (Err why) rest keeps = tt

-- the second one keeps it of what the first one keeps
goes_with : {A B : Type 0} (Q : A → Type 0) (P : B → Type 0) (r : Result A Refusal) (rest : A → Result B Refusal) →
    IfOk r Q → ((a : A) → Q a → IfOk (rest a) P) → IfOk (go_on r rest) P
goes_with Q P (Ok a) rest first keeps = keeps a first
goes_with Q P (Err why) rest first keeps = tt

-- ---- kinds

not_below : (n m : ℕ) → nat_lt n m ≡ false → m ≤ n
not_below n m e = grind (arith, nat_tests)

within_range : {A : Type 0} (P : A → Type 0) (least most size : ℕ) (x : A) → (IsBetween least most size → P x) → IfOk (within least most size x) P
within_range {A} P least most size x keeps = by (nat_lt size least) (nat_lt most size) refl refl
  where
    by : (low high : Bool) → nat_lt size least ≡ low → nat_lt most size ≡ high → IfOk (if low then Err OutOfRange else (if high then Err OutOfRange else Ok x)) P
    by true high e f = tt
    by false true e f = tt
    by false false e f = keeps (record { above = not_below size least e; below = not_below most size f })

number_in_range : (least most : ℕ) (d : Data) → IfOk (number least most d) (IsBetween least most)
number_in_range least most d =
    goes_on (IsBetween least most) (or_refuse WrongKind (option_and_then as_u64 (as_number d))) (λ n. within least most n n)
    (λ n. within_range (IsBetween least most) least most n n (λ is. is))

abbrev IsText : (most : ℕ) → List ℕ → Type 0
IsText most bytes = IsBetween 1 most (length bytes)

text_in_range : (most : ℕ) (d : Data) → IfOk (text most d) (IsText most)
text_in_range most d =
    goes_on (IsText most) (or_refuse WrongKind (as_str d)) (λ bytes. within 1 most (length bytes) bytes)
    (λ bytes. within_range (IsText most) 1 most (length bytes) bytes (λ is. is))

abbrev IsName : List ℕ → Type 0
IsName bytes = IsText 64 bytes × (list_all is_name_byte bytes ≡ true)

name_in_range : (d : Data) → IfOk (name d) IsName
name_in_range d = goes_with (IsText 64) IsName (text 64 d) with_name_bytes (text_in_range 64 d) (λ bytes is. by bytes (list_all is_name_byte bytes) refl is)
  where
    by : (bytes : List ℕ) (all : Bool) → list_all is_name_byte bytes ≡ all → IsText 64 bytes → IfOk (if all then Ok bytes else Err OutOfRange) IsName
    by bytes true e is = (is, e)
    by bytes false e is = tt

-- the value at a key
required_in_range : {A : Type 0} (P : A → Type 0) (key : List ℕ) (kind : Data → Result A Refusal) (d : Data) → ((v : Data) → IfOk (kind v) P) → IfOk (required key kind d) P
required_in_range P key kind d keeps = goes_on P (or_refuse MissingKey (get key d)) kind keeps

standard_in_range : {A : Type 0} (P : A → Type 0) (standard : A) (kind : Data → Result A Refusal) (found : Option Data) → P standard → ((v : Data) → IfOk (kind v) P) →
    IfOk (or_standard standard kind found) P
standard_in_range P standard kind None is keeps = is
standard_in_range P standard kind (Some v) is keeps = keeps v

-- each item of an array, and how many there are
each_in_range : {A : Type 0} (P : A → Type 0) (of_one : Data → Result A Refusal) (ds : Items) → ((v : Data) → IfOk (of_one v) P) →
    IfOk (each_of of_one ds) (λ xs. (length xs ≡ items_len ds) × AllByRecursion P xs)
each_in_range P of_one no_items keeps = (refl, tt)
each_in_range P of_one (item d ds) keeps =
    goes_with P (λ xs. (length xs ≡ suc (items_len ds)) × AllByRecursion P xs) (of_one d) (λ x. go_on (each_of of_one ds) (λ xs. Ok (x ∷ xs))) (keeps d)
    (λ x one. goes_with (λ xs. (length xs ≡ items_len ds) × AllByRecursion P xs) (λ xs. (length xs ≡ suc (items_len ds)) × AllByRecursion P xs)
    (each_of of_one ds) (λ xs. Ok (x ∷ xs)) (each_in_range P of_one ds keeps) (λ xs others. (ap suc others.0, (one, others.1))))

abbrev AreFew : {A : Type 0} (P : A → Type 0) → List A → Type 0
AreFew P xs = IsBetween 1 64 (length xs) × AllByRecursion P xs

array_in_range : {A : Type 0} (P : A → Type 0) (of_one : Data → Result A Refusal) (d : Data) → ((v : Data) → IfOk (of_one v) P) → IfOk (array_of of_one d) (AreFew P)
array_in_range {A} P of_one d keeps =
    goes_with (λ ds. IsBetween 1 64 (items_len ds)) (AreFew P) (array d) (each_of of_one)
    (goes_on (λ (ds : Items). IsBetween 1 64 (items_len ds)) (or_refuse WrongKind (as_array d)) (λ ds. within 1 64 (items_len ds) ds)
    (λ ds. within_range (λ (es : Items). IsBetween 1 64 (items_len es)) 1 64 (items_len ds) ds (λ is. is)))
    (λ ds few. counted ds few (each_of of_one ds) (each_in_range P of_one ds keeps))
  where
    counted : (ds : Items) → IsBetween 1 64 (items_len ds) → (r : Result (List A) Refusal) → IfOk r (λ xs. (length xs ≡ items_len ds) × AllByRecursion P xs) → IfOk r (AreFew P)
    counted ds few (Ok xs) all =
        let above = few.above in
        let below = few.below in
        (record { above = omega (arith, all.0); below = omega (arith, all.0) }, all.1)
    counted ds few (Err why) all = tt

-- ---- the objects, of what their keys give

route_with : (known : Result (Unit {0}) Refusal) (path file : Result (List ℕ) Refusal) (budget pages estimate deadline : Result ℕ Refusal) (content_type : Result (List ℕ) Refusal) →
    IfOk path (IsText 256) → IfOk file (IsText 256) → IfOk budget (IsBetween 0 1099511627776) → IfOk pages (IsBetween 1 1024) →
    IfOk estimate (IsBetween 0 1099511627776) → IfOk deadline (IsBetween 0 4294967295) → IfOk content_type (IsText 128) →
    IfOk
    (go_on known (λ k. go_on path (λ p. go_on file (λ m. go_on budget (λ b. go_on pages (λ g. go_on estimate (λ e. go_on deadline (λ d. go_on content_type (λ c.
    Ok (record { path = p; «module» = m; budget = b; pages = g; estimate = e; deadline = d; content_type = c })))))))))) IsRouteInRange
route_with (Err why) path file budget pages estimate deadline kind p m b g e d c = tt
route_with (Ok known) (Err why) file budget pages estimate deadline kind p m b g e d c = tt
route_with (Ok known) (Ok path) (Err why) budget pages estimate deadline kind p m b g e d c = tt
route_with (Ok known) (Ok path) (Ok file) (Err why) pages estimate deadline kind p m b g e d c = tt
route_with (Ok known) (Ok path) (Ok file) (Ok budget) (Err why) estimate deadline kind p m b g e d c = tt
route_with (Ok known) (Ok path) (Ok file) (Ok budget) (Ok pages) (Err why) deadline kind p m b g e d c = tt
route_with (Ok known) (Ok path) (Ok file) (Ok budget) (Ok pages) (Ok estimate) (Err why) kind p m b g e d c = tt
route_with (Ok known) (Ok path) (Ok file) (Ok budget) (Ok pages) (Ok estimate) (Ok deadline) (Err why) p m b g e d c = tt
route_with (Ok known) (Ok path) (Ok file) (Ok budget) (Ok pages) (Ok estimate) (Ok deadline) (Ok kind) p m b g e d c =
    record { path = p; file = m; budget = b.below; pages = g; estimate = e.below; deadline = d.below; content_type = c }

route_in_range : (d : Data) → IfOk (route_of d) IsRouteInRange
unfolding route_of
route_in_range d =
    route_with (object_of route_keys d) (required (codes "path") (text 256) d) (required (codes "module") (text 256) d) (required (codes "budget") (number 0 1099511627776) d)
    (required (codes "pages") (number 1 1024) d) (required (codes "estimate") (number 0 1099511627776) d) (required (codes "deadline") (number 0 4294967295) d)
    (optional (codes "content_type") (codes "application/octet-stream") (text 128) d)
    (required_in_range (IsText 256) (codes "path") (text 256) d (text_in_range 256))
    (required_in_range (IsText 256) (codes "module") (text 256) d (text_in_range 256))
    (required_in_range (IsBetween 0 1099511627776) (codes "budget") (number 0 1099511627776) d (number_in_range 0 1099511627776))
    (required_in_range (IsBetween 1 1024) (codes "pages") (number 1 1024) d (number_in_range 1 1024))
    (required_in_range (IsBetween 0 1099511627776) (codes "estimate") (number 0 1099511627776) d (number_in_range 0 1099511627776))
    (required_in_range (IsBetween 0 4294967295) (codes "deadline") (number 0 4294967295) d (number_in_range 0 4294967295))
    (standard_in_range (IsText 128) (codes "application/octet-stream") (text 128) (get (codes "content_type") d)
    (record { above = omega arith; below = omega arith }) (text_in_range 128))

tenant_with : (known : Result (Unit {0}) Refusal) (called : Result (List ℕ) Refusal) (port capacity rate : Result ℕ Refusal) (routes : Result (List Route) Refusal) →
    IfOk called IsName → IfOk port (IsBetween 1 65535) → IfOk capacity (IsBetween 0 1099511627776) → IfOk rate (IsBetween 0 4294967295) →
    IfOk routes (AreFew IsRouteInRange) →
    IfOk
    (go_on known (λ k. go_on called (λ n. go_on port (λ p. go_on capacity (λ c. go_on rate (λ r. go_on routes (λ all.
    Ok (record { name = n; port = p; capacity = c; rate = r; routes = all })))))))) IsTenantInRange
tenant_with (Err why) called port capacity rate routes n p c r all = tt
tenant_with (Ok known) (Err why) port capacity rate routes n p c r all = tt
tenant_with (Ok known) (Ok called) (Err why) capacity rate routes n p c r all = tt
tenant_with (Ok known) (Ok called) (Ok port) (Err why) rate routes n p c r all = tt
tenant_with (Ok known) (Ok called) (Ok port) (Ok capacity) (Err why) routes n p c r all = tt
tenant_with (Ok known) (Ok called) (Ok port) (Ok capacity) (Ok rate) (Err why) n p c r all = tt
tenant_with (Ok known) (Ok called) (Ok port) (Ok capacity) (Ok rate) (Ok routes) n p c r all =
    record { name = n.0; letters = n.1; port = p; capacity = c.below; rate = r.below; few = all.0; routes = all.1 }

tenant_in_range : (d : Data) → IfOk (tenant_of d) IsTenantInRange
unfolding tenant_of
tenant_in_range d =
    tenant_with (object_of tenant_keys d) (required (codes "name") name d) (required (codes "port") (number 1 65535) d)
    (required (codes "capacity") (number 0 1099511627776) d) (required (codes "rate") (number 0 4294967295) d) (required (codes "routes") (array_of route_of) d)
    (required_in_range IsName (codes "name") name d name_in_range)
    (required_in_range (IsBetween 1 65535) (codes "port") (number 1 65535) d (number_in_range 1 65535))
    (required_in_range (IsBetween 0 1099511627776) (codes "capacity") (number 0 1099511627776) d (number_in_range 0 1099511627776))
    (required_in_range (IsBetween 0 4294967295) (codes "rate") (number 0 4294967295) d (number_in_range 0 4294967295))
    (required_in_range (AreFew IsRouteInRange) (codes "routes") (array_of route_of) d (λ v. array_in_range IsRouteInRange route_of v route_in_range))

-- ---- the whole

-- a configuration as the code may have one
abbrev IsAccepted : Configuration → Type 0
IsAccepted c = IsInRange c × (first_fault c.berths c.tenants ≡ None)

unless_in_range : (fault : Option Refusal) (c : Configuration) → first_fault c.berths c.tenants ≡ fault → IsInRange c → IfOk (unless_faulty fault c) IsAccepted
unless_in_range None c is in_range = (in_range, is)
unless_in_range (Some why) c is in_range = tt

-- from the berths on, which are at least as many as the workers
berths_with : (workers quantum : ℕ) (order : Policy) (berths clerks : Result ℕ Refusal) (tenants : Result (List Tenant) Refusal) →
    IsBetween 1 64 workers → IsBetween 1 4294967295 quantum → IfOk berths (IsBetween workers 256) → IfOk clerks (IsBetween 1 16) → IfOk tenants (AreFew IsTenantInRange) →
    IfOk
    (go_on berths (λ b. go_on clerks (λ c. go_on tenants (λ all.
    unless_faulty (first_fault b all) (record { workers = workers; quantum = quantum; policy = order; berths = b; clerks = c; tenants = all }))))) IsAccepted
berths_with workers quantum order (Err why) clerks tenants w q b c all = tt
berths_with workers quantum order (Ok berths) (Err why) tenants w q b c all = tt
berths_with workers quantum order (Ok berths) (Ok clerks) (Err why) w q b c all = tt
berths_with workers quantum order (Ok berths) (Ok clerks) (Ok tenants) w q b c all =
    unless_in_range (first_fault berths tenants)
    (record { workers = workers; quantum = quantum; policy = order; berths = berths; clerks = clerks; tenants = tenants }) refl
    (record { workers = w; quantum = q; berths = b; clerks = c; few = all.0; tenants = all.1 })

config_with : (known : Result (Unit {0}) Refusal) (workers quantum : Result ℕ Refusal) (order : Result Policy Refusal)
    (berths : ℕ → Result ℕ Refusal) (clerks : Result ℕ Refusal) (tenants : Result (List Tenant) Refusal) →
    IfOk workers (IsBetween 1 64) → IfOk quantum (IsBetween 1 4294967295) → ((w : ℕ) → IfOk (berths w) (IsBetween w 256)) →
    IfOk clerks (IsBetween 1 16) → IfOk tenants (AreFew IsTenantInRange) →
    IfOk
    (go_on known (λ k. go_on workers (λ w. go_on quantum (λ q. go_on order (λ o. go_on (berths w) (λ b. go_on clerks (λ c. go_on tenants (λ all.
    unless_faulty (first_fault b all) (record { workers = w; quantum = q; policy = o; berths = b; clerks = c; tenants = all }))))))))) IsAccepted
config_with (Err why) workers quantum order berths clerks tenants w q b c all = tt
config_with (Ok known) (Err why) quantum order berths clerks tenants w q b c all = tt
config_with (Ok known) (Ok workers) (Err why) order berths clerks tenants w q b c all = tt
config_with (Ok known) (Ok workers) (Ok quantum) (Err why) berths clerks tenants w q b c all = tt
config_with (Ok known) (Ok workers) (Ok quantum) (Ok order) berths clerks tenants w q b c all =
    berths_with workers quantum order (berths workers) clerks tenants w q (b workers) c all

config_accepted : (d : Data) → IfOk (config_of d) IsAccepted
unfolding config_of
config_accepted d =
    config_with (object_of top_keys d) (required (codes "workers") (number 1 64) d) (required (codes "quantum") (number 1 4294967295) d) (required (codes "policy") policy d)
    (λ workers. required (codes "berths") (number workers 256) d) (optional (codes "clerks") 4 (number 1 16) d) (required (codes "tenants") (array_of tenant_of) d)
    (required_in_range (IsBetween 1 64) (codes "workers") (number 1 64) d (number_in_range 1 64))
    (required_in_range (IsBetween 1 4294967295) (codes "quantum") (number 1 4294967295) d (number_in_range 1 4294967295))
    (λ workers. required_in_range (IsBetween workers 256) (codes "berths") (number workers 256) d (number_in_range workers 256))
    (standard_in_range (IsBetween 1 16) 4 (number 1 16) (get (codes "clerks") d) (record { above = omega arith; below = omega arith }) (number_in_range 1 16))
    (required_in_range (AreFew IsTenantInRange) (codes "tenants") (array_of tenant_of) d (λ v. array_in_range IsTenantInRange tenant_of v tenant_in_range))

-- and so it is for the bytes of a file
bytes_accepted : (bytes : List ℕ) (long : Bool) → IfOk (if long then Err OutOfRange else go_on (json_of bytes) config_of) IsAccepted
bytes_accepted bytes true = tt
bytes_accepted bytes false = goes_on IsAccepted (json_of bytes) config_of config_accepted

held : (r : Result Configuration Refusal) (c : Configuration) → IfOk r IsAccepted → r ≡ Ok c → IsAccepted c
held r c keeps is = subst (λ (s : Result Configuration Refusal). IfOk s IsAccepted) is keeps

pub accepted : (bytes : List ℕ) (c : Configuration) → configuration bytes ≡ Ok c → IsInRange c × (first_fault c.berths c.tenants ≡ None)
accepted bytes c is = held (configuration bytes) c (bytes_accepted bytes (nat_lt 1048576 (length bytes))) is

-- ---- what it keeps where it has no fault

no_cause : (cause : Bool) (why : Refusal) (rest : Option Refusal) → (if cause then Some why else rest) ≡ None → (cause ≡ false) × (rest ≡ None)
no_cause true why rest none = absurd cc
no_cause false why rest none = (refl, none)

pub faultless : (c : Configuration) → first_fault c.berths c.tenants ≡ None → IsWhole c
unfolding first_fault
faultless c none =
    let few = no_cause (nat_lt 64 (route_count c.tenants)) OutOfRange _ none in
    let names = no_cause (has_double are_rivals c.tenants) DoubleName _ few.1 in
    let paths = no_cause (some_route has_bad_path c.tenants) BadRoute _ names.1 in
    let once = no_cause (list_any (λ t. has_double has_one_path t.routes) c.tenants) DoubleRoute _ paths.1 in
    let content_types = no_cause (some_route has_bad_content_type c.tenants) BadContentType _ once.1 in
    let memories = no_cause (some_route (is_too_large c.berths) c.tenants) RegionTooLarge _ content_types.1 in
    record {
      few = not_below 64 (route_count c.tenants) few.0;
      names = names.0;
      paths = paths.0;
      once = once.0;
      content_types = content_types.0;
      memories = memories.0;
    }
