-- What a call of a reader gives.
use Rattle.std.specs.Prelude.{◌≡◌, Result, Ok, Err}
use Rattle.virt_base.specs.declared.cursor.Cursor.{Cursor}
use Rattle.virt_base.specs.Place.{Place, place}
use Rattle.wasm_format.specs.declared.stop.Stop.{Stop}
use Rattle.wasm_format.specs.declared.stop.Stop.TheVariants.{NoMemory, Malformed, Unsupported, TooNested}

-- A stop is what reading gives, unless memory ran out.
abbrev pub Fails : {Y : Type 0} → Stop → Result Y Stop → Type 0
Fails NoMemory read = Unit {0}
Fails Malformed read = read ≡ Err Malformed
Fails (Unsupported at byte) read = read ≡ Err (Unsupported at byte)
Fails TooNested read = read ≡ Err TooNested

-- What a call returned, which left the cursor as c, is what reading gives, unless memory ran out.
abbrev pub Reads : {X : Type 0} → Result X Stop → Cursor → Result (X × Place) Stop → Type 0
Reads (Ok x) c read = read ≡ Ok (x, place c)
Reads (Err e) c read = Fails e read

-- The same of a value that is seen as view says.
abbrev pub ReadsAs : {X Y : Type 0} → (X → Y) → Result X Stop → Cursor → Result (Y × Place) Stop → Type 0
ReadsAs view (Ok x) c read = read ≡ Ok (view x, place c)
ReadsAs view (Err e) c read = Fails e read
