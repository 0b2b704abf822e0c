-- What the code's answers say, in the definitions' terms.
use Rattle.std.specs.Prelude.{ℕ, Result, Ok, Err}
use Rattle.tables.specs.declared.error.PageError.{PageError}
use Rattle.tables.specs.declared.error.PageError.TheVariants.{Overlap, TooFewPages, NoSuchPage}

abbrev pub page_error_number : PageError → ℕ
page_error_number Overlap = 6
page_error_number TooFewPages = 7
page_error_number NoSuchPage = 8

-- the reason against a page, or 0
abbrev pub reason_of : Result (Unit {0}) PageError → ℕ
reason_of (Ok _) = 0
reason_of (Err error) = page_error_number error
