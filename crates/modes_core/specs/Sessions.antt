use Rattle.std.specs.Prelude.{ℕ}

-- how many sessions a manager has at most: their numbers are those below
abbrev pub most_sessions : ℕ
most_sessions = 1024

-- how many sessions a manager has at most that is not made for a server, and how many a script has
abbrev pub usual_sessions : ℕ
usual_sessions = 64
