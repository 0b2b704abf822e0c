-- What a call answers, by number, beside what the recorder answers.
use Rattle.std.specs.Prelude.{ℕ}

abbrev pub ok : ℕ
ok = 0x00

abbrev pub bad_registers : ℕ
bad_registers = 0x101

abbrev pub bad_answer : ℕ
bad_answer = 0x102

abbrev pub bad_kind : ℕ
bad_kind = 0x103

abbrev pub bad_recorder : ℕ
bad_recorder = 0x104

abbrev pub bad_window_count : ℕ
bad_window_count = 0x105

abbrev pub no_fault : ℕ
no_fault = 0x10

abbrev pub bad_meters : ℕ
bad_meters = 0x106

abbrev pub meters_refused : ℕ
meters_refused = 0x60

-- no register and no window is bad; the number of the first that is is added to it
abbrev pub none_bad : ℕ
none_bad = 0x70

-- a take: no request bit stands
abbrev pub none_stands : ℕ
none_stands = 0x40

-- a take: the vector is added to it
abbrev pub taken : ℕ
taken = 0x200
