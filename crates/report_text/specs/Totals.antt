-- Counting lines by kind.
use Rattle.std.specs.Prelude.{List}
use Rattle.std.specs.List.{count_by}
use Rattle.log_records.specs.declared.report.ReportLine.{ReportLine}
use Rattle.log_records.specs.Report.{is_joined, is_missing, is_expired, is_unmatched}
use Rattle.report_text.specs.declared.totals.Totals.{Totals}

abbrev pub totals_of : List ReportLine → Totals
totals_of ls = record { joined = count_by is_joined ls; missing = count_by is_missing ls; expired = count_by is_expired ls; unmatched = count_by is_unmatched ls }
