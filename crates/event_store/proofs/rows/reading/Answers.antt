use Rattle.std.proofs.Common.{[], ◌∷◌, length, Some, None, codes, refl, ap, arith, lit<}
use Rattle.std.specs.Fmt.{digits}
use Rattle.event_store.proofs.Words.{lit≤, length-append, All-from_recursion, IsPrintable, space, query_line, IsQuery, one_query, query_lacks, ReadsNext, small_log}
use Rattle.event_id.specs.EventId.{spell, dotted}
use Rattle.event_store.proofs.rows.reading.Goals as goal

one_is : IsQuery one_query
one_is = record {
  id = record { ip = lit< tt; pid = lit< tt; micros = lit< tt };
  text = record {
    len = lit≤ tt;
    bytes = All-from_recursion IsPrintable (codes "shoes") ((lit≤ tt, lit≤ tt), ((lit≤ tt, lit≤ tt), ((lit≤ tt, lit≤ tt), ((lit≤ tt, lit≤ tt), ((lit≤ tt, lit≤ tt), tt)))));
  };
}

first_line : ReadsNext small_log 0 22 (Some one_query)
unfolding spell dotted digits
first_line = (query_line one_query, codes "\n10.0", refl, query_lacks one_query one_is, refl, (one_is, refl))

-- a record's line has a space
empty_line : ReadsNext small_log 22 23 None
empty_line = ([], codes "10.0", refl, tt, refl, λ q h e. omega (arith, ap length e, length-append (spell q.id) (space ∷ q.text)))

pub returns : goal.returns
returns c = record {
  none = refl;
  first = (22, first_line, refl);
  both = (22, first_line, (23, empty_line, refl));
}
