-- Document 02, Ask 14: every fault, each way of granting and each refusal, by pass-through, first level, second level and nested translation, as
-- rows over one memory with a few words of it edited, each row with its record and the entry concerned, or the bits that it writes.
use Rattle.std.specs.Prelude.{ℕ, Bool, true, false, List, [], ◌∷◌, ◌++◌, ◌≡◌, eqb, leb}
use Rattle.std.specs.Prelude.{if◌then◌else◌}
use Rattle.image.specs.Bytes.{spell}
use Rattle.image.specs.Memory.{Memory, missing, found}
use Rattle.image.specs.Place.{Place, no_entry, entry_at}
use Rattle.image.specs.Rules.{run}
use Rattle.dma.specs.Requests.{granted, blocked, refused}
use Rattle.pasid.specs.declared.Pasid.{Pasid}
use Rattle.pasid.specs.declared.ScalableRegisters.{ScalableRegisters}
use Rattle.flags.specs.Flags.{flag}
use Rattle.scalable.specs.Requests.{Decision, say_only, scalable_rules, scalable_place}
use Rattle.scalable.specs.declared.ScalableRequest.{ScalableRequest}

-- HAW 46, MGAW 48; the second level has 3 levels and 2 MiB pages, so that X is 39; every capability, those of 5 levels and 1 GiB pages as given
abbrev pub registers_with : (root : ℕ) (te more : Bool) → ScalableRegisters
registers_with root te more =
    record {
      base =
          record {
            haw = 46;
            mgaw = 48;
            levels3 = true;
            levels4 = false;
            levels5 = more;
            pages_2m = true;
            pages_1g = more;
            posting = false;
            root_table = root;
            interrupt_table = 0;
            s = 0;
            te = te;
            ire = false;
            eime = false;
            cfis = false;
          };
      flts = true;
      slts = true;
      nest = true;
      pt = true;
      fl5lp = more;
      fl1gp = more;
      slads = true;
      eafs = true;
      srs = true;
      smpwc = true;
    }

abbrev pub row_registers : ScalableRegisters
row_registers = registers_with 0x1000 true false

-- the number at the first of these places; else 0 below 7F000000h, and above nothing can be fetched
unfoldable pub by_words : List (ℕ × ℕ) → Memory
by_words [] at = if leb 0x7F000000 at then missing else found 0
by_words ((place, word) ∷ rest) at = if eqb at place then found word else by_words rest at

-- root entry of bus 3, context entry of device and function 10h (PASIDE, PDTS 4), directory entry of PASIDs 12340h to 1237Fh
abbrev pub row_words : List (ℕ × ℕ)
row_words =
    (0x1030, 0x2001)
    ∷ (0x2200, 0x3809)
    ∷ (0x5468, 0x8001)
    -- PASID table: 12340h second level with SLADE, 12341h first level with EAFE, 12342h nested with both, 12344h pass-through, 12345h first level
    -- with an empty top table, 12346h first level whose walk isn't snooped
    ∷ (0x8000, 0x10285)
    ∷ (0x8008, 0x800000)
    ∷ (0x8040, 0x41)
    ∷ (0x8048, 0x800000)
    ∷ (0x8050, 0x20080)
    ∷ (0x8080, 0x102C5)
    ∷ (0x8088, 0x800000)
    ∷ (0x8090, 0x40080)
    ∷ (0x8100, 0x101)
    ∷ (0x8140, 0x41)
    ∷ (0x8150, 0x30000)
    ∷ (0x8180, 0x41)
    ∷ (0x8190, 0x20000)
    -- second level: 2 MiB pages at 0 (R, W) and 200000h (R); nothing at 400000h; bit 12 at 600000h; a table that can't be fetched at 800000h;
    -- W alone at A00000h
    ∷ (0x10000, 0x11003)
    ∷ (0x11000, 0x83)
    ∷ (0x11008, 0x200081)
    ∷ (0x11018, 0x601083)
    ∷ (0x11020, 0x7F000003)
    ∷ (0x11028, 0xA00082)
    -- first level: 4 KiB pages at 1000h (all rights), 2000h (R/W clear), 3000h (U/S clear), 5000h (XD), a 2 MiB page with PAT at 200000h, a table
    -- that can't be fetched at 400000h
    ∷ (0x20000, 0x21007)
    ∷ (0x21000, 0x22007)
    ∷ (0x22000, 0x23007)
    ∷ (0x22008, 0x40601087)
    ∷ (0x22010, 0x7F000007)
    ∷ (0x23008, 0x12345007)
    ∷ (0x23010, 0x12346005)
    ∷ (0x23018, 0x12347003)
    ∷ (0x23028, 0x8000000012348007)
    -- of the nested translation: pages at intermediate addresses 123000h, 8000000000h, 201000h
    ∷ (0x40000, 0x41007)
    ∷ (0x41000, 0x42007)
    ∷ (0x42000, 0x43007)
    ∷ (0x43008, 0x123007)
    ∷ (0x43010, 0x8000000007)
    ∷ (0x43018, 0x201007)
    ∷ []

-- a fault by its reason, its record's two words (the address with its low 12 bits clear is the lower one) and the entry concerned
pub data Says : Type 0 where
  grants : (host : ℕ) (flags : List ℕ) → Says
  faults : (reason low high entry : ℕ) → Says
  silenced : (reason low high entry : ℕ) → Says
  refuses : (number : ℕ) → Says

pub record Row : Type 0 where
  pub registers : ScalableRegisters
  pub edits : List (ℕ × ℕ)
  pub request : ScalableRequest
  pub says : Says

abbrev under : ScalableRegisters → (edits : List (ℕ × ℕ)) → ScalableRequest → Says → Row
under registers edits request says = record { registers = registers; edits = edits; request = request; says = says }

abbrev row : (edits : List (ℕ × ℕ)) → ScalableRequest → Says → Row
row = under row_registers

abbrev asks : (write : Bool) → Pasid → (address : ℕ) → ScalableRequest
asks write pasid address = record { source = record { id = 0x0310 }; address = address; write = write; pasid = pasid }

abbrev pub read : (pasid address : ℕ) → ScalableRequest
read pasid = asks false (record { present = true; value = pasid })

abbrev pub write : (pasid address : ℕ) → ScalableRequest
write pasid = asks true (record { present = true; value = pasid })

-- without a PASID
abbrev read_bare : (address : ℕ) → ScalableRequest
read_bare = asks false (record { present = false; value = 0 })

-- A of the second level's two entries, and with D of the second as each walk to a first-level entry sets them; A and EA of a first-level entry
abbrev seen : List ℕ
seen = flag 0x10000 8 ∷ flag 0x11000 8 ∷ []

abbrev way : List ℕ
way = flag 0x10000 8 ∷ flag 0x11000 8 ∷ flag 0x11000 9 ∷ []

abbrev used : (entry : ℕ) → List ℕ
used entry = flag entry 5 ∷ flag entry 10 ∷ []

abbrev pub rows : List Row
rows =
    -- request: bad registers; an address of the interrupt range; a PASID of more than 20 bits, after these and with TE off too; TE off
    under (registers_with 0x1008 true false) [] (read 0x100000 0xFEE00000) (refuses 1)
    ∷ row [] (read 0x100000 0xFEE00000) (refuses 2)
    ∷ row [] (read 0x100000 0x1ABC) (refuses 6)
    ∷ under (registers_with 0x1000 false false) [] (read 0x100000 0x1ABC) (refuses 6)
    ∷ under (registers_with 0x1000 false false) [] (write 0x12343 0xFFFFFFFFFFFFF123) (grants 0xFFFFFFFFFFFFF123 [])
    -- root: 38h, 39h, 3Ah (in the half that isn't in use)
    ∷ under (registers_with 0x7F000000 true false) [] (read 0x12340 0x1ABC) (faults 0x38 0x1000 0xC123403880000310 0x7F000030)
    ∷ row ((0x1030, 0x2000) ∷ []) (read 0x12340 0x1ABC) (faults 0x39 0x1000 0xC123403980000310 0x1030)
    ∷ row ((0x1038, 0x2003) ∷ []) (read 0x12340 0x1ABC) (faults 0x3A 0x1000 0xC123403A80000310 0x1030)
    -- context: 40h; 41h, which FPD silences, though P is clear; 42h; 43h PRE without DTE, and RID_PASID beyond the directory; 45h; 46h
    ∷ row ((0x1030, 0x7F000001) ∷ []) (read 0x12340 0x1ABC) (faults 0x40 0x1000 0xC123404080000310 0x7F000200)
    ∷ row ((0x2200, 0x3808) ∷ []) (read 0x12340 0x1ABC) (faults 0x41 0x1000 0xC123404180000310 0x2200)
    ∷ row ((0x2200, 0x380A) ∷ []) (read 0x12340 0x1ABC) (silenced 0x41 0x1000 0xC123404180000310 0x2200)
    ∷ row ((0x2208, 0x200000) ∷ []) (read 0x12340 0x1ABC) (faults 0x42 0x1000 0xC123404280000310 0x2200)
    ∷ row ((0x2200, 0x3819) ∷ []) (read 0x12340 0x1ABC) (faults 0x43 0x1000 0xC123404380000310 0x2200)
    ∷ row ((0x2208, 0x20000) ∷ []) (read_bare 0x1ABC) (faults 0x43 0x1000 0xC000004300000310 0x2200)
    ∷ row ((0x2200, 0x3801) ∷ []) (read 0x12340 0x1ABC) (faults 0x45 0x1000 0xC123404580000310 0x2200)
    ∷ row [] (read 0x20000 0x1ABC) (faults 0x46 0x1000 0xC200004680000310 0x2200)
    -- directory: 50h, which the context's FPD doesn't silence; 51h, which the entry's own does; 52h
    ∷ row ((0x2200, 0x7F00080B) ∷ []) (read 0x12340 0x1ABC) (faults 0x50 0x1000 0xC123405080000310 0x7F002468)
    ∷ row ((0x5468, 0x8000) ∷ []) (read 0x12340 0x1ABC) (faults 0x51 0x1000 0xC123405180000310 0x5468)
    ∷ row ((0x5468, 0x8002) ∷ []) (read 0x12340 0x1ABC) (silenced 0x51 0x1000 0xC123405180000310 0x5468)
    ∷ row ((0x5468, 0x8005) ∷ []) (read 0x12340 0x1ABC) (faults 0x52 0x1000 0xC123405280000310 0x5468)
    -- table: 58h; 59h; 5Ah and 5Bh; 5Dh, a privileged request (RID_PRIV)
    ∷ row ((0x5468, 0x7F000003) ∷ []) (read 0x12340 0x1ABC) (faults 0x58 0x1000 0xC123405880000310 0x7F000000)
    ∷ row [] (read 0x12343 0x1ABC) (faults 0x59 0x1000 0xC123435980000310 0x80C0)
    ∷ row ((0x8000, 0x10685) ∷ []) (read 0x12340 0x1ABC) (faults 0x5A 0x1000 0xC123405A80000310 0x8000)
    ∷ row ((0x8000, 0x10281) ∷ []) (read 0x12340 0x1ABC) (faults 0x5B 0x1000 0xC123405B80000310 0x8000)
    ∷ row ((0x2208, 0x112341) ∷ []) (read_bare 0x3ABC) (faults 0x5D 0x3000 0xC000005D00000310 0x8040)
    -- pass-through: the address itself, whatever its width; 5Ah at its entry
    ∷ row [] (write 0x12344 0xFFFFFFFFFFFFF000) (grants 0xFFFFFFFFFFFFF000 [])
    ∷ row ((0x8100, 0x901) ∷ []) (write 0x12344 0x1ABC) (faults 0x5A 0x1000 0x8123445A80000310 0x8100)
    -- second level: a read, a write with D, one where all flags are set already, a read without a PASID, a write with SLADE clear, a 1 GiB page; a
    -- page of the interrupt range
    ∷ row [] (read 0x12340 0x1ABC) (grants 0x1ABC seen)
    ∷ row [] (write 0x12340 0x1ABC) (grants 0x1ABC way)
    ∷ row ((0x10000, 0x11103) ∷ (0x11000, 0x383) ∷ []) (write 0x12340 0x1ABC) (grants 0x1ABC [])
    ∷ row ((0x2208, 0x12340) ∷ []) (read_bare 0x1ABC) (grants 0x1ABC seen)
    ∷ row ((0x8000, 0x10085) ∷ []) (write 0x12340 0x1ABC) (grants 0x1ABC [])
    ∷ under (registers_with 0x1000 true true) ((0x10000, 0x40000083) ∷ []) (write 0x12340 0x1ABC) (grants 0x40001ABC (flag 0x10000 8 ∷ flag 0x10000 9 ∷ []))
    ∷ row ((0x11000, 0xFEE00083) ∷ []) (read 0x12340 0x1ABC) (refuses 4)
    -- 78h, 79h, 7Ah, 7Bh, 7Ch, 84h, 85h, 86h
    ∷ row [] (read 0x12340 0x800000) (faults 0x78 0x800000 0xC123407880000310 0x7F000000)
    ∷ row [] (read 0x12340 0x400000) (faults 0x79 0x400000 0xC123407980000310 0x11010)
    ∷ row [] (read 0x12340 0x600000) (faults 0x7A 0x600000 0xC123407A80000310 0x11018)
    ∷ row ((0x8000, 0x7F000285) ∷ []) (read 0x12340 0x1ABC) (faults 0x7B 0x1000 0xC123407B80000310 0x7F000000)
    ∷ row ((0x8008, 0) ∷ []) (read 0x12340 0x1ABC) (faults 0x7C 0x1000 0xC123407C80000310 0x10000)
    ∷ row [] (read 0x12340 0x8000000000) (faults 0x84 0x8000000000 0xC123408480000310 0x8000)
    ∷ row [] (write 0x12340 0x200000) (faults 0x85 0x200000 0x8123408580000310 0x11008)
    ∷ row [] (read 0x12340 0xA00000) (faults 0x86 0xA00000 0xC123408680000310 0x11028)
    -- first level: a write with D, a 2 MiB page with PAT, a privileged read of a page without U/S (RID_PRIV, SRE), 5 levels
    ∷ row [] (write 0x12341 0x1ABC) (grants 0x12345ABC (used 0x20000 ++ used 0x21000 ++ used 0x22000 ++ (flag 0x23008 5 ∷ flag 0x23008 6 ∷ flag 0x23008 10 ∷ [])))
    ∷ row [] (read 0x12341 0x212345) (grants 0x40612345 (used 0x20000 ++ used 0x21000 ++ used 0x22008))
    ∷ row ((0x2208, 0x112341) ∷ (0x8050, 0x20081) ∷ []) (read_bare 0x3ABC) (grants 0x12347ABC (used 0x20000 ++ used 0x21000 ++ used 0x22000 ++ used 0x23018))
    ∷ under (registers_with 0x1000 true true) ((0x8050, 0x50084) ∷ (0x50000, 0x20007) ∷ []) (read 0x12341 0x1ABC)
    (grants 0x12345ABC (used 0x50000 ++ used 0x20000 ++ used 0x21000 ++ used 0x22000 ++ used 0x23008))
    -- 70h; 71h, which FPD of the context, of the directory and of the table entry silences; 72h, 73h, 7Ch, 80h, 81h, 85h
    ∷ row [] (read 0x12341 0x400000) (faults 0x70 0x400000 0xC123417080000310 0x7F000000)
    ∷ row [] (read 0x12345 0x1ABC) (faults 0x71 0x1000 0xC123457180000310 0x30000)
    ∷ row ((0x2200, 0x380B) ∷ []) (read 0x12345 0x1ABC) (silenced 0x71 0x1000 0xC123457180000310 0x30000)
    ∷ row ((0x5468, 0x8003) ∷ []) (read 0x12345 0x1ABC) (silenced 0x71 0x1000 0xC123457180000310 0x30000)
    ∷ row ((0x8140, 0x43) ∷ []) (read 0x12345 0x1ABC) (silenced 0x71 0x1000 0xC123457180000310 0x30000)
    ∷ row [] (read 0x12341 0x5000) (faults 0x72 0x5000 0xC123417280000310 0x23028)
    ∷ row ((0x8050, 0x7F000080) ∷ []) (read 0x12341 0x1ABC) (faults 0x73 0x1000 0xC123417380000310 0x7F000000)
    ∷ row [] (read 0x12346 0x1ABC) (faults 0x7C 0x1000 0xC123467C80000310 0x20000)
    ∷ row [] (read 0x12341 0x800000000000) (faults 0x80 0x800000000000 0xC123418080000310 0x8040)
    ∷ row [] (read 0x12341 0x3000) (faults 0x81 0x3000 0xC123418180000310 0x23018)
    ∷ row [] (write 0x12341 0x2000) (faults 0x85 0x2000 0x8123418580000310 0x23010)
    -- nested: a read and a write, whose page is mapped by the same entries; the first level's 71h; 74h of the page, and 85h where the second level
    -- gives it no W
    ∷ row [] (read 0x12342 0x1ABC)
    (grants 0x123ABC (way ++ used 0x40000 ++ way ++ used 0x41000 ++ way ++ used 0x42000 ++ way ++ used 0x43008 ++ seen))
    ∷ row [] (write 0x12342 0x1ABC)
    (grants 0x123ABC (way ++ used 0x40000 ++ way ++ used 0x41000 ++ way ++ used 0x42000 ++ way ++ (flag 0x43008 5 ∷ flag 0x43008 6 ∷ flag 0x43008 10 ∷ []) ++ way))
    ∷ row [] (read 0x12342 0x4ABC) (faults 0x71 0x4000 0xC123427180000310 0x43020)
    ∷ row [] (read 0x12342 0x2ABC) (faults 0x74 0x2000 0xC123427480000310 0x43010)
    ∷ row [] (write 0x12342 0x3ABC) (faults 0x85 0x3000 0x8123428580000310 0x11008)
    -- on the way to the top entry 78h, 79h, 7Ah, 7Bh, 86h; 85h with SLADE, and without it where a flag has to be set; where all are set, a read needs no W
    ∷ row ((0x10000, 0x7F000003) ∷ []) (read 0x12342 0x1ABC) (faults 0x78 0x1000 0xC123427880000310 0x7F000000)
    ∷ row ((0x11000, 0x80) ∷ []) (read 0x12342 0x1ABC) (faults 0x79 0x1000 0xC123427980000310 0x11000)
    ∷ row ((0x11000, 0x1083) ∷ []) (read 0x12342 0x1ABC) (faults 0x7A 0x1000 0xC123427A80000310 0x11000)
    ∷ row ((0x8080, 0x7F0002C5) ∷ []) (read 0x12342 0x1ABC) (faults 0x7B 0x1000 0xC123427B80000310 0x7F000000)
    ∷ row ((0x11000, 0x82) ∷ []) (read 0x12342 0x1ABC) (faults 0x86 0x1000 0xC123428680000310 0x11000)
    ∷ row ((0x11000, 0x81) ∷ []) (read 0x12342 0x1ABC) (faults 0x85 0x1000 0xC123428580000310 0x11000)
    ∷ row ((0x8080, 0x100C5) ∷ (0x11000, 0x81) ∷ []) (read 0x12342 0x1ABC) (faults 0x85 0x1000 0xC123428580000310 0x40000)
    ∷ row ((0x8080, 0x100C5) ∷ (0x11000, 0x81) ∷ (0x40000, 0x41427) ∷ (0x41000, 0x42427) ∷ (0x42000, 0x43427) ∷ (0x43008, 0x123427) ∷ [])
    (read 0x12342 0x1ABC) (grants 0x123ABC [])
    ∷ []

-- what the rules answer, with the entry concerned
abbrev answer : Row → Memory → Decision × Place
answer q m = (run (scalable_rules q.registers q.request) m, scalable_place q.registers q.request m)

unfoldable pub answers : List Row → List (Decision × Place)
answers [] = []
answers (q ∷ rest) = answer q (by_words (q.edits ++ row_words)) ∷ answers rest

abbrev expected : Says → Decision × Place
expected (grants host flags) = (record { outcome = granted host; flags = flags }, no_entry)
expected (faults reason low high entry) =
    (say_only (blocked (record { reason = reason; recordable = true; contents = spell (low ∷ high ∷ []) })), entry_at entry)
expected (silenced reason low high entry) =
    (say_only (blocked (record { reason = reason; recordable = false; contents = spell (low ∷ high ∷ []) })), entry_at entry)
expected (refuses number) = (say_only (refused number), no_entry)

unfoldable pub said : List Row → List (Decision × Place)
said [] = []
said (q ∷ rest) = expected q.says ∷ said rest

-- the rules answer what the rows say. Proved in proofs/Rows.antt.
abbrev pub ScalableRows : Type 0
ScalableRows = answers rows ≡ said rows
