-- A request of the load, which what is drawn for it determines (RFC 9112, section 2.1).
use Rattle.std.specs.Prelude.{ℕ, ◌+◌, ◌/◌, ◌%◌, List, [], ◌++◌, codes, decimal, get_or, map}
use Rattle.std.specs.List.{range_with_len}
use Rattle.serve_config.specs.Routing.{all_routes}
use Rattle.generated_load.specs.Configuration.{soak_configuration}

-- the path of the route with this number
abbrev pub path_at : (number : ℕ) → List ℕ
path_at number = get_or (map (λ r. r.path) (all_routes soak_configuration.tenants)) number []

-- how many bytes the body has
abbrev pub body_size : (drawn : ℕ) → ℕ
body_size drawn = (drawn / 4) % 2000

-- its bytes: one more from each to the next, and 0 behind 255
abbrev pub body_byte : (drawn place : ℕ) → ℕ
body_byte drawn place = (drawn + place) % 256

abbrev pub body_of : (drawn : ℕ) → List ℕ
body_of drawn = map (body_byte drawn) (range_with_len 0 (body_size drawn))

-- the head, and behind it the body
abbrev pub head_of : (path : List ℕ) (size : ℕ) → List ℕ
head_of path size =
    codes "POST " ++ (path ++ (codes " HTTP/1.1\r\nHost: soak\r\nContent-Length: " ++ (decimal size ++ codes "\r\n\r\n")))

abbrev pub request_of : (drawn : ℕ) → List ℕ
request_of drawn = head_of (path_at (drawn % 4)) (body_size drawn) ++ body_of drawn
