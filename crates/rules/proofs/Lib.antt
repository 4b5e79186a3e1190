pub mod Sheets
pub mod SheetsOnReadings
pub mod SheetsOnRefusals
pub mod SheetsOnTheLists
pub mod SheetsPrinted
