-- What a page holds.
use Rattle.std.specs.Prelude.{ℕ, List, take}
use Rattle.rip_report.specs.declared.page.Page.{Page}

-- the bytes that have not gone out yet
abbrev pub held : Page → List ℕ
held page = take page.used page.bytes
