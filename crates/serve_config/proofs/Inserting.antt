-- What `matchit` answers to a route without parameters that it has not yet.
use Rattle.std.proofs.Common.{◌≡◌, ℕ, List, None, true, Result, Ok, Err, refl, sym, ◌∙◌}
use Rattle.matchit.specs.Rows.{RowsOf}
use Rattle.matchit.specs.Order.{lookup, placed}
use Rattle.matchit.specs.Route.{parse_route}
use Rattle.matchit.specs.Router.{RouteOf, InsertsRead, Inserted, Refused, nearest}
use Rattle.matchit.specs.declared.error.InsertError.{InsertError}
use Rattle.matchit.specs.declared.error.InsertError.TheVariants.{Conflict, InvalidParam, InvalidParamSegment, InvalidCatchAll, OutOfMemory}
use Rattle.serve_config.specs.Letters.{is_path}
use Rattle.serve_config.specs.Tables.{number_at, table_of, row_of}
use Rattle.serve_config.proofs.Literals.{literal_path, text_literal, parse_literal, no_nearest}
use Rattle.serve_config.proofs.Tabling.{read_rows, no_value}

pub as_read : (path : List ℕ) (number : ℕ) (old new : RowsOf (RouteOf ℕ)) (result : Result (Unit {0}) InsertError) → is_path path ≡ true
    → InsertsRead (parse_route path) number old new result → Inserted (row_of path number) old new result
as_read path number old new result is h = rw (parse_literal path (literal_path path is)) at h

pub inserted : (path : List ℕ) (number : ℕ) (old new : RowsOf (RouteOf ℕ)) (u : Unit {0}) → is_path path ≡ true
    → InsertsRead (parse_route path) number old new (Ok u) → new ≡ placed (path, row_of path number) old
inserted path number old new u is h = (as_read path number old new (Ok u) is h).1

pub only_memory : (path : List ℕ) (number : ℕ) (old new : RowsOf (RouteOf ℕ)) (error : InsertError) → is_path path ≡ true → number_at (table_of old) path ≡ None
    → InsertsRead (parse_route path) number old new (Err error) → error ≡ OutOfMemory
only_memory path number old new error is none h = by error (as_read path number old new (Err error) is h).1
  where
    new_path : nearest path old ≡ None
    new_path = no_nearest path old (text_literal path (literal_path path is)) (no_value (lookup path old) (sym (read_rows path old) ∙ none))

    by : (e : InsertError) → Refused path old e → e ≡ OutOfMemory
    by (Conflict with) refused = cc (new_path, refused.1)
    by OutOfMemory refused = refl
    by InvalidParamSegment refused = absurd refused
    by InvalidParam refused = absurd refused
    by InvalidCatchAll refused = absurd refused
